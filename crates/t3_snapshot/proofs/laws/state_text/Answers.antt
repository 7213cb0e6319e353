use Rattle.t3_snapshot.proofs.OneState.{one_spelling, one_state, not_refused}
use Rattle.t3_snapshot.proofs.OneRefusal.{one_refusal}
use Rattle.t3_snapshot.proofs.Sizes.{read_back}
use Rattle.t3_snapshot.proofs.SoundTrimmed.{sound_trimmed}
use Rattle.t3_snapshot.proofs.SomeAnswer.{some_answer}
use Rattle.t3_snapshot.proofs.laws.state_text.Goals as goal

pub returns-clause-read_back : goal.returns-clause-read_back
returns-clause-read_back c = read_back

pub returns-clause-one_spelling : goal.returns-clause-one_spelling
returns-clause-one_spelling c = one_spelling

pub returns-clause-one_state : goal.returns-clause-one_state
returns-clause-one_state c = one_state

pub returns-clause-one_refusal : goal.returns-clause-one_refusal
returns-clause-one_refusal c = one_refusal

pub returns-clause-not_refused : goal.returns-clause-not_refused
returns-clause-not_refused c = not_refused

pub returns-clause-nothing_trimmed : goal.returns-clause-nothing_trimmed
returns-clause-nothing_trimmed c = sound_trimmed

pub returns-clause-some_answer : goal.returns-clause-some_answer
returns-clause-some_answer c = some_answer
