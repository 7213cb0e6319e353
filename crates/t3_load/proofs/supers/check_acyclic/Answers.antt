use Rattle.std.proofs.Common.{subst, inr}
use Rattle.t3_tadsobj.specs.Cycles.{IsFirstCyclic}
use Rattle.t3_load.specs.ImageObjects.{object_numbers, supers_by}
use Rattle.t3_load.proofs.SuperRules.{cycle_decides, acyclic_kept, all_acyclic}
use Rattle.t3_load.proofs.supers.check_acyclic.Goals as goal

pub returns-in-Some-clause-decides : goal.returns-in-Some-clause-decides
returns-in-Some-clause-decides c = λ blocks are.
    inr
    (cycle_decides blocks c.args.objects.now c.in-Some.number
    (subst (IsFirstCyclic (supers_by c.args.objects.now) (object_numbers c.args.objects.now)) c.in-Some.is c.in_ok-number.ensures) are)

pub returns-in-None-clause-acyclic : goal.returns-in-None-clause-acyclic
returns-in-None-clause-acyclic c =
    all_acyclic c.args.objects.now
    (subst (IsFirstCyclic (supers_by c.args.objects.now) (object_numbers c.args.objects.now)) c.in-None.is c.in_ok-number.ensures)

pub returns-in-None-clause-decides : goal.returns-in-None-clause-decides
returns-in-None-clause-decides c = λ blocks are.
    acyclic_kept blocks c.args.objects.now are
    (subst (IsFirstCyclic (supers_by c.args.objects.now) (object_numbers c.args.objects.now)) c.in-None.is c.in_ok-number.ensures)
