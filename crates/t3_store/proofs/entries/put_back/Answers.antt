use Rattle.std.proofs.Common.{◌∙◌, ap, sym, refl, inl, arith}
use Rattle.std.specs.Option.{option_map}
use Rattle.t3_undo.specs.Journal.{old_of}
use Rattle.t3_store.proofs.PuttingBack.{putting-next, fewer, can-first, put-things, put-journal, put-stamped, put-can, put-bounded}
use Rattle.t3_store.proofs.entries.put_back.Goals as goal

pub loop-kept-init : goal.loop-kept-init
loop-kept-init c = record {
  rising = c.requires.rising;
  things = refl;
  stamped = c.requires.stamped;
  distinct = c.records-distinct.ensures.distinct;
  len = refl;
  can = c.requires.can;
  few = omega (arith, c.records-distinct.ensures.records, c.records-distinct.ensures.bound, c.requires.limit);
  since = c.purge_serial-oldest.ensures;
  bounded = λ q own there. inl (c.requires.bounded q own there);
  among = λ q there. there;
  ticks = λ bound all records. (all, records);
  journal = refl;
}

pub loop-kept-preserved : goal.loop-kept-preserved
loop-kept-preserved c =
    putting-next _ _ _ _ _ _ _ _ _ (old_of c.in-Some.kept) c.loop-kept.invariant c.requires.gaps c.in-Some.ensures.kept c.take_kept.ensures.left
    c.tidy.ensures.rising c.put_kept.ensures.things c.put_kept.ensures.places c.put_kept.ensures.len c.put_kept.ensures.ticks
    c.tidy.ensures.places c.tidy.ensures.len

pub loop-kept-smaller : goal.loop-kept-smaller
loop-kept-smaller c = fewer (old_of c.in-Some.kept) c.loop-kept.journal c.take_kept.new.self c.in-Some.ensures.kept c.take_kept.ensures.left

pub put_kept-requires : goal.put_kept-requires
put_kept-requires c = record {
  rising = c.loop-kept.invariant.rising;
  can = can-first (old_of c.in-Some.kept) c.loop-kept.journal.segments _ c.in-Some.ensures.kept c.loop-kept.invariant.can;
}

pub returns : goal.returns
returns c =
    let none = ap (option_map old_of) (sym c.in_default.is) ∙ c.take_kept.ensures.kept in
    record {
      rising = c.loop-kept.invariant.rising;
      things = put-things _ _ _ _ _ c.loop-kept.journal c.loop-kept.invariant none;
      can = put-can _ _ _ _ _ c.loop-kept.journal c.loop-kept.invariant;
      bounded = put-bounded _ _ _ _ _ c.loop-kept.journal c.loop-kept.invariant none;
      stamped = put-stamped _ _ _ _ _ c.loop-kept.journal _ c.loop-kept.invariant none c.take_kept.ensures.left;
      len = c.loop-kept.invariant.len;
      ticks = λ bound all records. (c.loop-kept.invariant.ticks bound all records).0;
      journal = put-journal _ _ _ _ _ c.loop-kept.journal _ c.loop-kept.invariant none c.take_kept.ensures.left;
    }
