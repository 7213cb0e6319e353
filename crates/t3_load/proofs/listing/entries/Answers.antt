use Rattle.std.proofs.Common.{ap, sym, ◌∙◌, ◌++◌, length, drop, suc, map, Some, arith}
use Rattle.std.specs.Global.{Vec}
use Rattle.std.specs.List.{flat_map}
use Rattle.t3_image_read.specs.declared.image.PlacedBlock.{PlacedBlock}
use Rattle.t3_load.proofs.Tables.{fits_with, unknown_after, refused, table_step, unknown_step, flat_map-drop}
use Rattle.t3_load.proofs.listing.entries.Goals as goal

pub append-requires : goal.append-requires
append-requires g c =
    let fits = fits_with (λ (placed : PlacedBlock). g.L.Listing.items c.args.listing.now placed.block)
    (g.L.Listing.meaning c.args.listing.now)
    c.args.blocks.now c.loop-placed.placed-index c.placed-item.result c.loop-placed.entries.items 4294967296 c.loop-placed-test.true c.placed-item.is
    c.loop-placed.invariant.0 c.requires in
    omega (arith, fits, ap length c.items.ensures)

pub returns-in_err-append : goal.returns-in_err-append
returns-in_err-append g c =
    let items = λ (placed : PlacedBlock). g.L.Listing.items c.args.listing.now placed.block in
    let meaning = g.L.Listing.meaning c.args.listing.now in
    let parts = flat_map-drop items c.args.blocks.now c.loop-placed.placed-index c.placed-item.result c.loop-placed-test.true c.placed-item.is
    ∙ ap (λ front. front ++ flat_map items (drop (suc c.loop-placed.placed-index) c.args.blocks.now)) (sym c.items.ensures) in
    refused (λ table. table.items) meaning (flat_map items c.args.blocks.now) c.in_err-append.field-0.0 c.from_residual.result
    c.from_residual.ensures.1
    (unknown_after (λ (table : Vec g.row.L-Entry.Denot). table.items) meaning (flat_map items c.args.blocks.now) c.items.result.now
    (flat_map items (drop (suc c.loop-placed.placed-index) c.args.blocks.now))
    (flat_map items (drop c.loop-placed.placed-index c.args.blocks.now)) c.loop-placed.entries.items c.append.new.entries.items
    c.in_err-append.field-0.0 c.in_err-append.ensures c.loop-placed.invariant.1 parts)

pub loop-placed-preserved : goal.loop-placed-preserved
loop-placed-preserved g c =
    let items = λ (placed : PlacedBlock). g.L.Listing.items c.args.listing.now placed.block in
    let meaning = g.L.Listing.meaning c.args.listing.now in
    let loop = c.loop-placed in
    let added = c.in_ok-append.ensures ∙ ap (λ found. map Some loop.entries.items ++ map meaning found) c.items.ensures in (
      table_step items meaning c.args.blocks.now loop.placed-index c.placed-item.result loop.entries.items c.append.new.entries.items
          c.loop-placed-test.true c.placed-item.is added loop.invariant.0,
      unknown_step items meaning
          (flat_map items c.args.blocks.now) c.args.blocks.now loop.placed-index c.placed-item.result loop.entries.items
          c.append.new.entries.items c.loop-placed-test.true c.placed-item.is added loop.invariant.1,
    )
