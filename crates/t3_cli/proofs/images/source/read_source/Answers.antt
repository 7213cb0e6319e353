use Rattle.std.proofs.Common.{List, ℕ, Option, Ok, subst}
use Rattle.std.specs.Global.{Vec}
use Rattle.t3_files.specs.Reading.{ReadsFile}
use Rattle.t3_cli.specs.Inner.Reading.{IsAssembled}
use Rattle.t3_cli.proofs.FileRead.{reads_assembled}
use Rattle.t3_cli.proofs.images.source.read_source.Goals as goal

pub returns-in-Some-clause-read : goal.returns-in-Some-clause-read
returns-in-Some-clause-read g c =
    let files = g.D.Depot.files c.args.depot.now in
    let reads = subst (λ (found : Option (Vec ℕ)). ReadsFile files c.args.name.now (Ok found)) c.in-Some.is c.in_ok-text.ensures.read in
    let says = subst (λ (bytes : List ℕ). IsAssembled bytes c.assembled.result) c.deref.ensures.value c.assembled.ensures in
    reads_assembled files c.args.name.now c.in-Some.text c.assembled.result reads says
