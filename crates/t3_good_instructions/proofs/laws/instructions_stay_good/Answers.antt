use Rattle.t3_good_instructions.proofs.Frames.{keeps-stack, keeps-jump, keeps-math}
use Rattle.t3_good_instructions.proofs.Variables.{keeps-variable-set}
use Rattle.t3_good_instructions.proofs.Calling.{keeps-call}
use Rattle.t3_good_instructions.proofs.Instructions.{keeps-push, keeps-make}
use Rattle.t3_good_instructions.proofs.laws.instructions_stay_good.Goals as goal

pub returns-clause-pushes : goal.returns-clause-pushes
returns-clause-pushes g c program address size code context good stands has =
    keeps-push g.G.HolderProperty.good program good address size code stands context has

pub returns-clause-computes : goal.returns-clause-computes
returns-clause-computes g c program code context good has =
    keeps-math g.G.HolderProperty.good good.closed program.pools good.constants code context has

pub returns-clause-calls : goal.returns-clause-calls
returns-clause-calls g c program address size code context good stands has =
    keeps-call g.G.HolderProperty.good program good address size code stands context has

pub returns-clause-moves : goal.returns-clause-moves
returns-clause-moves g c program code context good has = keeps-stack g.G.HolderProperty.good good.closed code context has

pub returns-clause-jumps : goal.returns-clause-jumps
returns-clause-jumps g c program code context good has = keeps-jump g.G.HolderProperty.good good.closed program.pools code context has

pub returns-clause-makes : goal.returns-clause-makes
returns-clause-makes g c program address size code context good stands has =
    keeps-make g.G.HolderProperty.good program good address size code stands context has

pub returns-clause-sets : goal.returns-clause-sets
returns-clause-sets g c program address size code context good stands has =
    keeps-variable-set g.G.HolderProperty.good program good address size code stands context has
