use Rattle.std.proofs.Common.{◌≡◌, ◌+◌, ◌-◌, suc, sym, ap, ◌∙◌, arith}
use Rattle.t3_methods.specs.Inner.Tables.{entry_of}
use Rattle.t3_methods.proofs.Tables.{table_short, table_gap, table_whole, passed_more}
use Rattle.t3_methods.proofs.Handlers.{found_after, table_in-short, table_in-count, passes_entry, lacks_entry, all_found}
use Rattle.t3_methods.proofs.handler.handler_by.Goals as goal

pub returns-then-window-lt2 : goal.returns-then-window-lt2
returns-then-window-lt2 c = record {
  reads = table_short c.args.pools.now.code c.args.table c.at-window.result.bytes.now c.at-window.ensures.shows c.if-window-lt2.true;
  is = table_in-short c.args.pools.now.code c.args.table c.args.method c.args.place c.args.classes.now c.at-window.result.bytes.now
      c.at-window.ensures.shows c.if-window-lt2.true;
}

pub returns-in_default : goal.returns-in_default
returns-in_default c =
    let code = c.args.pools.now.code in
    let left = c.uint2-count.result - c.loop.counter - 1 in
    let more : c.uint2-count.result - c.loop.counter ≡ suc left = omega (arith, c.loop-test.true) in
    record {
      reads = table_gap code c.args.table c.uint2-count.result c.loop.counter c.loop.next c.at-window.result.bytes.now c.at-window.ensures.shows.shows
          c.if-window-lt2.false c.uint2-count.ensures c.loop-test.true c.loop.invariant.next c.in_default.ensures.reads;
      is = sym (
          table_in-count code c.args.table c.args.method c.args.place c.args.classes.now c.uint2-count.result c.at-window.result.bytes.now
          c.at-window.ensures.shows.shows c.if-window-lt2.false c.uint2-count.ensures ∙ c.loop.invariant.after
          ∙ ap (λ n. found_after n code c.loop.next c.args.method c.args.place c.args.classes.now c.loop.handler) more
          ∙ lacks_entry code c.loop.next c.args.method c.args.place c.args.classes.now left c.loop.handler (sym c.in_default.ensures.is));
    }

pub loop-preserved : goal.loop-preserved
loop-preserved c =
    let kept = c.loop.invariant in
    let code = c.args.pools.now.code in
    let left = c.uint2-count.result - c.loop.counter - 1 in
    let more : c.uint2-count.result - c.loop.counter ≡ suc left = omega (arith, c.loop-test.true) in
    let less : left ≡ c.uint2-count.result - (c.loop.counter + 1) = omega arith in
    record {
      next = omega (arith, kept.next);
      after = kept.after ∙ ap (λ n. found_after n code c.loop.next c.args.method c.args.place c.args.classes.now c.loop.handler) more
          ∙ passes_entry code c.loop.next c.args.method c.args.place c.args.classes.now left c.loop.handler (entry_of c.in-Some.entry) (sym c.in-Some.ensures.is)
          ∙ (λ i. found_after (less i) code (c.loop.next + 10) c.args.method c.args.place c.args.classes.now (sym c.earlier-handler.ensures i));
      passed = passed_more code _ c.args.method c.args.place c.args.classes.now c.loop.counter c.loop.next c.loop.handler
          c.earlier-handler.result (entry_of c.in-Some.entry) kept.passed kept.next c.in-Some.ensures.reads c.earlier-handler.ensures;
    }

pub returns : goal.returns
returns c =
    let past = c.loop-test.false in
    let most = c.loop.auto.counter-end in
    let code = c.args.pools.now.code in
    let all : c.loop.counter ≡ c.uint2-count.result = omega arith in
    let none : c.uint2-count.result - c.loop.counter ≡ 0 = omega (arith, past) in
    record {
      reads = table_whole code c.args.table c.args.method c.args.place c.args.classes.now c.uint2-count.result c.loop.counter
          c.loop.handler c.at-window.result.bytes.now c.at-window.ensures.shows.shows c.if-window-lt2.false c.uint2-count.ensures all c.loop.invariant.passed;
      is = sym (
          table_in-count code c.args.table c.args.method c.args.place c.args.classes.now c.uint2-count.result c.at-window.result.bytes.now
          c.at-window.ensures.shows.shows c.if-window-lt2.false c.uint2-count.ensures ∙ c.loop.invariant.after
          ∙ ap (λ n. found_after n code c.loop.next c.args.method c.args.place c.args.classes.now c.loop.handler) none
          ∙ all_found code c.loop.next c.args.method c.args.place c.args.classes.now c.loop.handler);
    }
