use Rattle.std.proofs.Common.{true, false}
use Rattle.t3_pools.specs.Pool.{said_of}
use Rattle.t3_pools.proofs.Rules.{AreSheets, tested, is_far_sheet, is_long_sheet, far, not_far, long, not_long, twice as has_twice, not_twice, lacks, not_lacking, fits, narrow, gathered_pool, keeps_none, keeps_index, keeps_twice, keeps_missing, keeps_long}
use Rattle.t3_pools.proofs.pages.pages_of.Goals as goal

pub returns-then-has_far : goal.returns-then-has_far
returns-then-has_far c =
    let said = said_of c.args.number c.args.blocks.now in
    let sheets = c.in_ok-sheets.sheets.items in
    let are : AreSheets c.args.number said c.args.layout sheets = record { lays_out = c.requires; pages = c.in_ok-sheets.ensures } in (
      far c.args.number said c.args.layout sheets are (tested (λ s. is_far_sheet c.args.layout.count s) _ _ c.has_far.result true
          c.deref.ensures.value c.has_far.ensures c.if-has_far.true),
      keeps_none said,
    )

pub returns-in-None : goal.returns-in-None
returns-in-None c =
    let said = said_of c.args.number c.args.blocks.now in
    let sheets = c.in_ok-sheets.sheets.items in
    let are : AreSheets c.args.number said c.args.layout sheets = record { lays_out = c.requires; pages = c.in_ok-sheets.ensures } in
    let near = tested (λ s. is_far_sheet c.args.layout.count s) _ _ c.has_far.result false c.deref.ensures.value c.has_far.ensures
    c.if-has_far.false in
    let index = keeps_index said (not_far c.args.number said c.args.layout sheets are near) in
    (has_twice c.args.number said c.args.layout sheets are (rw (c.deref-2.ensures.value, c.in-None.is) at c.in_ok-sorted.ensures), index)

pub returns-in-None-2 : goal.returns-in-None-2
returns-in-None-2 c =
    let said = said_of c.args.number c.args.blocks.now in
    let sheets = c.in_ok-sheets.sheets.items in
    let are : AreSheets c.args.number said c.args.layout sheets = record { lays_out = c.requires; pages = c.in_ok-sheets.ensures } in
    let near = tested (λ s. is_far_sheet c.args.layout.count s) _ _ c.has_far.result false c.deref.ensures.value c.has_far.ensures
    c.if-has_far.false in
    let index = keeps_index said (not_far c.args.number said c.args.layout sheets are near) in
    let sorts = rw (c.deref-2.ensures.value, c.in-Some.is) at c.in_ok-sorted.ensures in
    let twice = keeps_twice said index (not_twice c.args.number said c.args.layout sheets c.in-Some.sorted are sorts) in
    (lacks c.args.number said c.args.layout sheets c.in-Some.sorted are sorts (rw c.in-None-2.is at c.in_ok-pages.ensures), twice)

pub returns-then-has_long : goal.returns-then-has_long
returns-then-has_long c =
    let said = said_of c.args.number c.args.blocks.now in
    let sheets = c.in_ok-sheets.sheets.items in
    let are : AreSheets c.args.number said c.args.layout sheets = record { lays_out = c.requires; pages = c.in_ok-sheets.ensures } in
    let near = tested (λ s. is_far_sheet c.args.layout.count s) _ _ c.has_far.result false c.deref.ensures.value c.has_far.ensures
    c.if-has_far.false in
    let index = keeps_index said (not_far c.args.number said c.args.layout sheets are near) in
    let sorts = rw (c.deref-2.ensures.value, c.in-Some.is) at c.in_ok-sorted.ensures in
    let twice = keeps_twice said index (not_twice c.args.number said c.args.layout sheets c.in-Some.sorted are sorts) in
    let orders = rw c.in-Some-2.is at c.in_ok-pages.ensures in
    let missing = keeps_missing said twice (not_lacking c.args.number said c.args.layout sheets c.in-Some.sorted _ are near sorts orders) in (
      long c.args.number said c.args.layout sheets are (tested (λ s. is_long_sheet c.args.layout.size s) _ _ c.has_long.result true
          c.deref-3.ensures.value c.has_long.ensures c.if-has_long.true),
      missing,
    )

pub returns : goal.returns
returns c =
    let said = said_of c.args.number c.args.blocks.now in
    let sheets = c.in_ok-sheets.sheets.items in
    let are : AreSheets c.args.number said c.args.layout sheets = record { lays_out = c.requires; pages = c.in_ok-sheets.ensures } in
    let near = tested (λ s. is_far_sheet c.args.layout.count s) _ _ c.has_far.result false c.deref.ensures.value c.has_far.ensures
    c.if-has_far.false in
    let index = keeps_index said (not_far c.args.number said c.args.layout sheets are near) in
    let sorts = rw (c.deref-2.ensures.value, c.in-Some.is) at c.in_ok-sorted.ensures in
    let twice = keeps_twice said index (not_twice c.args.number said c.args.layout sheets c.in-Some.sorted are sorts) in
    let orders = rw c.in-Some-2.is at c.in_ok-pages.ensures in
    let missing = keeps_missing said twice (not_lacking c.args.number said c.args.layout sheets c.in-Some.sorted _ are near sorts orders) in
    let short = tested (λ s. is_long_sheet c.args.layout.size s) _ _ c.has_long.result false c.deref-3.ensures.value c.has_long.ensures
    c.if-has_long.false in (
      record {
        size = c.requires.size;
        pool = gathered_pool c.args.number said c.args.layout sheets c.in-Some.sorted _ are near sorts orders short;
        fits = fits c.args.number said c.args.layout sheets c.in-Some.sorted _ are near sorts orders short;
        narrow = narrow said c.args.layout c.in-Some.sorted _ c.requires orders;
      },
      keeps_long said missing (not_long c.args.number said c.args.layout sheets are short),
    )
