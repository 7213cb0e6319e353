-- The lines that are shown.
use Rattle.std.specs.Prelude.{ℕ, List, ◌++◌, codes, Option, Some, None}
use Rattle.std.specs.Fmt.{decimal}
use Rattle.t3_image_read.specs.declared.refusal.ReadWhy.{ReadWhy}
use Rattle.t3_asm.specs.declared.refusal.AsmWhy.{AsmWhy}
use Rattle.t3_asm.specs.declared.refusal.AsmWhy.TheVariants as rules
use Rattle.t3_pools.specs.declared.refusal.PoolRefusal.{PoolRefusal}
use Rattle.t3_pools.specs.declared.refusal.PoolRefusal.TheVariants as pools
use Rattle.t3_load.specs.declared.refusal.LoadRefusal.{LoadRefusal}
use Rattle.t3_load.specs.declared.refusal.LoadRefusal.TheVariants as load
use Rattle.t3_run.specs.EndLines.{newline}
use Rattle.t3_run.specs.declared.stop.RunEnd.{RunEnd}
use Rattle.t3_image_read.specs.declared.refusal.ReadWhy.TheVariants.{Signature, Version, TooLong, TooMany, UnknownMandatory, Malformed, EofSize, Truncated}

abbrev pub usage_line : List ℕ
usage_line = codes "usage: t3 check or show or list or run or rewrite or asm or drill" ++ newline

abbrev pub absent_line : List ℕ → List ℕ
absent_line name = codes "absent " ++ (name ++ newline)

-- the name of a rule
abbrev pub why_name : ReadWhy → List ℕ
why_name Signature = codes "Signature"
why_name Version = codes "Version"
why_name TooLong = codes "TooLong"
why_name TooMany = codes "TooMany"
why_name UnknownMandatory = codes "UnknownMandatory"
why_name (Malformed items) = codes "Malformed"
why_name EofSize = codes "EofSize"
why_name Truncated = codes "Truncated"

-- how many items of a malformed payload spell
abbrev pub items_of : ReadWhy → Option ℕ
items_of (Malformed items) = Some items
items_of _ = None

-- why an image is refused, and where
abbrev pub refused_text : List ℕ → ℕ → Option ℕ → List ℕ
refused_text name place None = codes "refused " ++ (name ++ (codes " at " ++ (decimal place ++ newline)))
refused_text name place (Some items) =
    codes "refused " ++ (name ++ (codes " at " ++ (decimal place ++ (codes " items=" ++ (decimal items ++ newline)))))

abbrev pub refused_line : ReadWhy → ℕ → List ℕ
refused_line why place = refused_text (why_name why) place (items_of why)

-- how many blocks an image has, its end among them, and how many bytes it uses
abbrev pub ok_line : ℕ → ℕ → List ℕ
ok_line blocks bytes = codes "ok blocks=" ++ (decimal blocks ++ (codes " bytes=" ++ (decimal bytes ++ newline)))

-- how many bytes a file has that was put
abbrev pub put_line : ℕ → List ℕ
put_line bytes = codes "ok bytes=" ++ (decimal bytes ++ newline)

-- what a drill shows behind its run: how many actions and steps were made, and how many savepoints and changed cells are held
abbrev pub drill_line : ℕ → RunEnd → List ℕ
drill_line actions ended =
    codes "drill actions=" ++ (decimal actions ++ (codes " steps=" ++ (decimal ended.steps
    ++ (codes " held=" ++ (decimal ended.held ++ (codes " records=" ++ (decimal ended.records ++ newline)))))))

-- the name of a rule of sources
abbrev pub source_why_name : AsmWhy → List ℕ
source_why_name rules.Word = codes "Word"
source_why_name rules.Number = codes "Number"
source_why_name rules.Range = codes "Range"
source_why_name rules.LabelTwice = codes "LabelTwice"
source_why_name rules.Order = codes "Order"
source_why_name rules.LabelMissing = codes "LabelMissing"
source_why_name rules.Jump = codes "Jump"
source_why_name rules.TooLong = codes "TooLong"
source_why_name rules.NoMemory = codes "NoMemory"

-- the line of a source that breaks a rule, from 1, or 0 where the source is too long
abbrev pub bad_line : ℕ → AsmWhy → List ℕ
bad_line line why = codes "refused line " ++ (decimal line ++ (codes " " ++ (source_why_name why ++ newline)))

-- the name of a rule on pools
abbrev pub pool_rule_name : PoolRefusal → List ℕ
pool_rule_name pools.NoCode = codes "NoCode"
pool_rule_name pools.TwoDefs = codes "TwoDefs"
pool_rule_name pools.TooWide = codes "TooWide"
pool_rule_name pools.PageIndex = codes "PageIndex"
pool_rule_name pools.PageTwice = codes "PageTwice"
pool_rule_name pools.PageMissing = codes "PageMissing"
pool_rule_name pools.PageLong = codes "PageLong"
pool_rule_name pools.NoMemory = codes "NoMemory"

-- the name of a rule on images of which a program is made, and what of the image breaks it: an index, an object's number, or a rule on pools
abbrev pub load_rule : LoadRefusal → List ℕ × Option (List ℕ)
load_rule load.NoEntry = (codes "NoEntry", None)
load_rule load.TwoEntries = (codes "TwoEntries", None)
load_rule load.HeaderSizes = (codes "HeaderSizes", None)
load_rule (load.Pool why) = (codes "Pool", Some (pool_rule_name why))
load_rule (load.Metaclass index) = (codes "Metaclass", Some (decimal index))
load_rule (load.FunctionSet index) = (codes "FunctionSet", Some (decimal index))
load_rule (load.ObjectNumber number) = (codes "ObjectNumber", Some (decimal number))
load_rule (load.ObjectTwice number) = (codes "ObjectTwice", Some (decimal number))
load_rule (load.ObjectData number) = (codes "ObjectData", Some (decimal number))
load_rule (load.SuperMissing number) = (codes "SuperMissing", Some (decimal number))
load_rule (load.SuperCycle number) = (codes "SuperCycle", Some (decimal number))
load_rule (load.TransientSuper number) = (codes "TransientSuper", Some (decimal number))
load_rule load.Full = (codes "Full", None)
load_rule load.NoMemory = (codes "NoMemory", None)

abbrev pub load_text : List ℕ × Option (List ℕ) → List ℕ
load_text (name, None) = codes "load refused " ++ (name ++ newline)
load_text (name, Some detail) = codes "load refused " ++ (name ++ (codes " " ++ (detail ++ newline)))

-- why no program is made of an image
abbrev pub load_line : LoadRefusal → List ℕ
load_line why = load_text (load_rule why)
