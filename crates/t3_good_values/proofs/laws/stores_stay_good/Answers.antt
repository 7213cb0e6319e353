use Rattle.t3_good_values.proofs.Stores.{good-started, good-created, good-written, good-taken, good-saved, good-undone, good-replaced}
use Rattle.t3_good_values.proofs.StoreChanges.{good-elements, good-after_changes}
use Rattle.t3_good_values.proofs.laws.stores_stay_good.Goals as goal

pub returns-clause-starts : goal.returns-clause-starts
returns-clause-starts g c = good-started g.G.HolderProperty.good

pub returns-clause-creates : goal.returns-clause-creates
returns-clause-creates g c = good-created g.G.HolderProperty.good

pub returns-clause-writes : goal.returns-clause-writes
returns-clause-writes g c = good-written g.G.HolderProperty.good

pub returns-clause-elements : goal.returns-clause-elements
returns-clause-elements g c = good-elements g.G.HolderProperty.good

pub returns-clause-takes : goal.returns-clause-takes
returns-clause-takes g c = good-taken g.G.HolderProperty.good

pub returns-clause-changes : goal.returns-clause-changes
returns-clause-changes g c = good-after_changes g.G.HolderProperty.good

pub returns-clause-savepoint : goal.returns-clause-savepoint
returns-clause-savepoint g c = good-saved g.G.HolderProperty.good

pub returns-clause-undo : goal.returns-clause-undo
returns-clause-undo g c = good-undone g.G.HolderProperty.good

pub returns-clause-replaces : goal.returns-clause-replaces
returns-clause-replaces g c = good-replaced g.G.HolderProperty.good
