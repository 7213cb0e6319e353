use Rattle.t3_store.proofs.KindValues.{placed-text, placed-list}
use Rattle.t3_store.proofs.object.Object.put.Goals as goal

pub returns-in-Text-clause-thing : goal.returns-in-Text-clause-thing
returns-in-Text-clause-thing c = absurd (placed-text c.args.self.now c.in-Text.text c.args.cell.now c.in-Text.is c.requires.place)

pub returns-in-Text-clause-old : goal.returns-in-Text-clause-old
returns-in-Text-clause-old c = absurd (placed-text c.args.self.now c.in-Text.text c.args.cell.now c.in-Text.is c.requires.place)

pub returns-in-Text-clause-below : goal.returns-in-Text-clause-below
returns-in-Text-clause-below c = absurd (placed-text c.args.self.now c.in-Text.text c.args.cell.now c.in-Text.is c.requires.place)

pub returns-in-List-clause-thing : goal.returns-in-List-clause-thing
returns-in-List-clause-thing c = absurd (placed-list c.args.self.now c.in-List.list c.args.cell.now c.in-List.is c.requires.place)

pub returns-in-List-clause-old : goal.returns-in-List-clause-old
returns-in-List-clause-old c = absurd (placed-list c.args.self.now c.in-List.list c.args.cell.now c.in-List.is c.requires.place)

pub returns-in-List-clause-below : goal.returns-in-List-clause-below
returns-in-List-clause-below c = absurd (placed-list c.args.self.now c.in-List.list c.args.cell.now c.in-List.is c.requires.place)
