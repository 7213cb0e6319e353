-- Lines of bytes, of objects, of properties, of names and of symbols may stand one behind the other.
use Rattle.std.proofs.Common.{◌≡◌, ℕ, ◌+◌, Bool, true, false, not, eqb, List, [], ◌∷◌, ◌++◌, length, map, refl, sym, ap, ◌∙◌, subst, eq-eqb}
use Rattle.std.specs.List.{AllByRecursion, flat_map}
use Rattle.t3_blocks.specs.declared.items.PropEntry.{PropEntry}
use Rattle.t3_blocks.specs.declared.items.Static.{Static}
use Rattle.t3_blocks.specs.declared.items.Symbol.{Symbol}
use Rattle.t3_blocks.specs.Spelling.{IsProp}
use Rattle.t3_asm_line.specs.declared.argument.Argument.{Argument}
use Rattle.t3_asm_line.specs.declared.argument.Argument.TheVariants.{Number, Text}
use Rattle.t3_asm_line.specs.declared.keyword.Keyword.{Keyword}
use Rattle.t3_asm_line.specs.declared.keyword.Keyword.TheVariants as of
use Rattle.t3_asm_line.specs.declared.line.ParsedLine.{ParsedLine}
use Rattle.t3_asm_line.specs.Line.{parsed_line}
use Rattle.t3_asm.specs.declared.stage.Stage.{Stage}
use Rattle.t3_asm.specs.declared.stage.Stage.TheVariants as stages
use Rattle.t3_asm.specs.Forms.{has_size, is_resized}
use Rattle.t3_asm.specs.Listing.{bytes_line, bytes_lines, pieces, static_lines, prop_lines, name_lines, symbol_lines}
use Rattle.t3_asm.specs.Stages.{stage_behind, takes_kept}
use Rattle.t3_asm.proofs.EachLine.{prop_line}
use Rattle.t3_asm.proofs.ListingForm.{Stands, StandFrom}

-- the stage behind some lines
abbrev pub stage_through : Stage → List ParsedLine → Stage
stage_through stage [] = stage
stage_through stage (line ∷ lines) = stage_through (stage_behind stage line.keyword line.arguments) lines

pub StandFrom-append : (stage : Stage) (front back : List ParsedLine) → StandFrom stage front → StandFrom (stage_through stage front) back
    → StandFrom stage (front ++ back)
StandFrom-append stage [] back stand behind = behind
StandFrom-append stage (line ∷ front) back stand behind =
    (stand.0, StandFrom-append (stage_behind stage line.keyword line.arguments) front back stand.1 behind)

pub stage_through-append : (stage : Stage) (front back : List ParsedLine)
    → stage_through stage (front ++ back) ≡ stage_through (stage_through stage front) back
stage_through-append stage [] back = refl
stage_through-append stage (line ∷ front) back = stage_through-append (stage_behind stage line.keyword line.arguments) front back

-- lines that may stand here, and lead to a stage
pub record StandTo (stage : Stage) (lines : List ParsedLine) (end : Stage) : Type 0 where
  pub stand : StandFrom stage lines
  pub ends : stage_through stage lines ≡ end

pub StandTo-append : (stage mid end : Stage) (front back : List ParsedLine) → StandTo stage front mid → StandTo mid back end
    → StandTo stage (front ++ back) end
StandTo-append stage mid end front back first second = record {
  stand = StandFrom-append stage front back first.stand (subst (λ s. StandFrom s back) (sym first.ends) second.stand);
  ends = stage_through-append stage front back ∙ ap (λ s. stage_through s back) first.ends ∙ second.ends;
}

-- only a property is measured by its metaclass
pub not_resized : (stage : Stage) (keyword : Keyword) (arguments : List Argument) → ((size : ℕ) → has_size size keyword arguments ≡ true)
    → is_resized stage keyword arguments ≡ false
not_resized (stages.Metaclass size) keyword arguments any = ap not (any size)
not_resized stage keyword arguments any = refl

-- lines of bytes keep the stage of a page, of an object or of a kept block
bytes_stand : (stage : Stage) → takes_kept stage ≡ true → (ps : List (List ℕ)) → StandTo stage (map bytes_line ps) stage
bytes_stand stage takes [] = record { stand = tt; ends = refl }
bytes_stand stage takes (piece ∷ ps) =
    let others = bytes_stand stage takes ps in
    let sized = not_resized stage of.Bytes (Text piece ∷ []) (λ size. refl) in
    record {
      stand =
          (record { taken = takes; sized = sized; named = refl; no_label = refl; no_address = refl; no_offset = refl }, others.stand);
      ends = others.ends;
    }

pub bytes_lines_stand : (stage : Stage) → takes_kept stage ≡ true → (bytes : List ℕ) → StandTo stage (bytes_lines bytes) stage
unfolding bytes_lines
bytes_lines_stand stage takes bytes = bytes_stand stage takes (pieces bytes)

-- names and symbols keep their stages
pub names_stand : (names : List (List ℕ)) → StandTo stages.FunctionSets (flat_map name_lines names) stages.FunctionSets
names_stand [] = record { stand = tt; ends = refl }
names_stand (name ∷ names) =
    let others = names_stand names in
    record {
      stand =
          (record { taken = refl; sized = refl; named = refl; no_label = refl; no_address = refl; no_offset = refl }, others.stand);
      ends = others.ends;
    }

pub symbols_stand : (symbols : List Symbol) → StandTo stages.Symbols (flat_map symbol_lines symbols) stages.Symbols
symbols_stand [] = record { stand = tt; ends = refl }
symbols_stand (symbol ∷ symbols) =
    let others = symbols_stand symbols in
    record {
      stand =
          (record { taken = refl; sized = refl; named = refl; no_label = refl; no_address = refl; no_offset = refl }, others.stand);
      ends = others.ends;
    }

-- objects, behind the head or another object
object_stands : (flags : ℕ) (object : Static) (stage : Stage)
    → Stands stage (parsed_line of.Object (Number object.number ∷ []))
    → stage_behind stage of.Object (Number object.number ∷ []) ≡ stages.Object flags
    → StandTo stage (static_lines object) (stages.Object flags)
object_stands flags object stage first next =
    let others = bytes_lines_stand (stages.Object flags) refl object.bytes in
    record {
      stand = (first, subst (λ s. StandFrom s (bytes_lines object.bytes)) (sym next) others.stand);
      ends = ap (λ s. stage_through s (bytes_lines object.bytes)) next ∙ others.ends;
    }

more_objects : (flags : ℕ) (objects : List Static) → StandTo (stages.Object flags) (flat_map static_lines objects) (stages.Object flags)
more_objects flags [] = record { stand = tt; ends = refl }
more_objects flags (object ∷ objects) =
    StandTo-append (stages.Object flags) (stages.Object flags) (stages.Object flags) (static_lines object) (flat_map static_lines objects)
    (object_stands flags object (stages.Object flags)
    (record { taken = refl; sized = refl; named = refl; no_label = refl; no_address = refl; no_offset = refl }) refl)
    (more_objects flags objects)

-- the stage behind so many objects
abbrev pub objects_end : ℕ → List Static → Stage
objects_end flags [] = stages.Objects flags
objects_end flags (object ∷ objects) = stages.Object flags

pub objects_stand : (flags : ℕ) (objects : List Static)
    → StandTo (stages.Objects flags) (flat_map static_lines objects) (objects_end flags objects)
objects_stand flags [] = record { stand = tt; ends = refl }
objects_stand flags (object ∷ objects) =
    StandTo-append (stages.Objects flags) (stages.Object flags) (stages.Object flags) (static_lines object) (flat_map static_lines objects)
    (object_stands flags object (stages.Objects flags)
    (record { taken = refl; sized = refl; named = refl; no_label = refl; no_address = refl; no_offset = refl }) refl)
    (more_objects flags objects)

-- properties of their metaclass's size
prop_by : (size : ℕ) (entry : PropEntry) (small : Bool) → eqb size 2 ≡ small → IsProp size entry
    → Stands (stages.Metaclass size) (prop_line small entry)
prop_by size entry true two is = record {
  taken = refl;
  sized = ap not two;
  named = refl;
  no_label = refl;
  no_address = refl;
  no_offset = refl;
}
prop_by size entry false two is = record {
  taken = refl;
  sized = ap not (eq-eqb size (2 + length entry.extra) (sym is.1));
  named = refl;
  no_label = refl;
  no_address = refl;
  no_offset = refl;
}

prop_stage : (size : ℕ) (entry : PropEntry) (small : Bool)
    → stage_through (stages.Metaclass size) (prop_line small entry ∷ [])
    ≡ stages.Metaclass size
prop_stage size entry true = refl
prop_stage size entry false = refl

pub props_stand : (size : ℕ) (props : List PropEntry) → AllByRecursion (IsProp size) props
    → StandTo (stages.Metaclass size) (flat_map (prop_lines size) props) (stages.Metaclass size)
props_stand size [] are = record { stand = tt; ends = refl }
props_stand size (entry ∷ props) are =
    StandTo-append (stages.Metaclass size) (stages.Metaclass size) (stages.Metaclass size) (prop_lines size entry)
    (flat_map (prop_lines size) props)
    (record { stand = (prop_by size entry (eqb size 2) refl are.0, tt); ends = prop_stage size entry (eqb size 2) })
    (props_stand size props are.1)
