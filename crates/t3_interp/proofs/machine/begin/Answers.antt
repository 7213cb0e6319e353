use Rattle.std.proofs.Common.{◌≡◌, None, sym, subst, ap, ◌∙◌}
use Rattle.t3_holder.specs.declared.holder.Holder.TheVariants.{Nil}
use Rattle.t3_store.specs.Store.{StoreValue, started}
use Rattle.t3_load.specs.Loading.{ProgramValue}
use Rattle.t3_snapshot.specs.Layout.{IsGoodHolder}
use Rattle.t3_good_values.specs.Stores.{IsGoodStore}
use Rattle.t3_good_values.proofs.Stores.{good-started}
use Rattle.t3_interp.specs.declared.event.Event.TheVariants.{Went}
use Rattle.t3_interp.specs.declared.running.Awaited.TheVariants.{Line}
use Rattle.t3_interp.specs.declared.running.Running.{Running}
use Rattle.t3_interp.specs.declared.running.Stage.TheVariants.{Entry}
use Rattle.t3_interp.specs.Inner.Acting.{IsGoodRun}
use Rattle.t3_interp.proofs.GoodProgram.{HaveNumbers, good-program, within-run, numbers-first, numbers-passing}
use Rattle.t3_interp.proofs.machine.begin.Goals as goal

pub returns-clause-good : goal.returns-clause-good
returns-clause-good c =
    let inside = c.program.inside in
    let program : ProgramValue = record {
      entry = inside.entry;
      pools = inside.pools;
      kinds = inside.kinds;
      sets = inside.sets;
      symbols = inside.symbols;
      first = inside.first;
      passing = inside.passing;
      next = inside.next;
      fingerprint = inside.fingerprint;
      limits = inside.limits;
    } in
    let store = c.in_ok-store.store.store in
    let store_is : store ≡ started program.limits program.first program.passing program.next =
    c.in_ok-store.ensures.store ∙ (λ i. started program.limits (c.in_ok-first.ensures i) (c.in_ok-passing.ensures i) program.next) in
    let numbers = c.next.ensures.numbers in
    let own = subst HaveNumbers (ap (λ (s : StoreValue). s.persistent) store_is) (numbers-first store numbers) in
    let others =
    subst HaveNumbers (ap (λ (s : StoreValue). s.transient) store_is)
    (numbers-passing store (ap (λ (s : StoreValue). s.next_transient) store_is) numbers) in
    let within = within-run program.pools.code c.run.result.now c.run.ensures.empty c.run.ensures.bounded c.run.ensures.beyond in
    let good = good-program program c.program.invariant within c.run-2.ensures.bytes own others in
    let running : Running = record {
      core = record {
        frames = c.in_ok-new.field-0;
        register = Nil;
        store = c.in_ok-store.store;
        say = None;
        call = c.function.result;
      };
      stage = Entry;
      awaited = Line;
      steps = 0;
      event = Went;
    } in
    subst (λ (p : ProgramValue). IsGoodRun p running) c.program.view_is (record {
      static = good;
      state = record {
        frames = tt;
        register = good.closed.nil;
        store =
            subst (IsGoodStore IsGoodHolder) (sym store_is)
            (good-started IsGoodHolder program.limits program.first program.passing program.next good.first good.passing good.next);
        say = tt;
      };
      limits = ap (λ (s : StoreValue). s.limits) store_is;
    })
