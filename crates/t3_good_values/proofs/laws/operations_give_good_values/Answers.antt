use Rattle.t3_good_values.proofs.Arithmetic.{arith_of-fits}
use Rattle.t3_good_values.proofs.Sums.{sum_of-good}
use Rattle.t3_good_values.proofs.Builtins.{pure_builtin_of-good}
use Rattle.t3_good_values.proofs.Indexing.{index_of-good, list_with_element_of-good}
use Rattle.t3_good_values.proofs.GoodKeys.{key_of-good}
use Rattle.t3_good_values.proofs.Creating.{new_string_of-good, new_list_of-good, new_vector_of-good, new_table_of-good}
use Rattle.t3_good_values.proofs.laws.operations_give_good_values.Goals as goal

pub returns-clause-arithmetic : goal.returns-clause-arithmetic
returns-clause-arithmetic g c = arith_of-fits

pub returns-clause-sum : goal.returns-clause-sum
returns-clause-sum g c = sum_of-good g.G.HolderProperty.good

pub returns-clause-builtin : goal.returns-clause-builtin
returns-clause-builtin g c = pure_builtin_of-good g.G.HolderProperty.good

pub returns-clause-item : goal.returns-clause-item
returns-clause-item g c = index_of-good g.G.HolderProperty.good

pub returns-clause-list : goal.returns-clause-list
returns-clause-list g c = list_with_element_of-good g.G.HolderProperty.good

pub returns-clause-key : goal.returns-clause-key
returns-clause-key g c = key_of-good g.G.HolderProperty.good

pub returns-clause-new_string : goal.returns-clause-new_string
returns-clause-new_string g c = new_string_of-good g.G.HolderProperty.good

pub returns-clause-new_list : goal.returns-clause-new_list
returns-clause-new_list g c = new_list_of-good g.G.HolderProperty.good

pub returns-clause-new_vector : goal.returns-clause-new_vector
returns-clause-new_vector g c = new_vector_of-good g.G.HolderProperty.good

pub returns-clause-new_table : goal.returns-clause-new_table
returns-clause-new_table g c = new_table_of-good g.G.HolderProperty.good
