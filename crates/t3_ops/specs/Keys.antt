-- The keys under which tables have values (the chapter on the metaclass of tables, in this project's profile).
use Rattle.std.specs.Prelude.{is_some, Result, Ok, Err, if◌then◌else◌}
use Rattle.t3_holder.specs.declared.holder.Holder.{Holder}
use Rattle.t3_holder.specs.declared.holder.Holder.TheVariants as holders
use Rattle.t3_undo.specs.declared.key.Key.{Key}
use Rattle.t3_undo.specs.declared.key.Key.TheVariants as keys
use Rattle.t3_pools.specs.Pool.{Pool}
use Rattle.t3_store.specs.Store.{StoreValue, value_at}
use Rattle.t3_ops.specs.declared.fault.Fault.{Fault}
use Rattle.t3_ops.specs.declared.fault.Fault.TheVariants.{KeyKind, Stale}
use Rattle.t3_ops.specs.Values.{TextOrList, OfText, OfList, Neither, text_or_list_of}
use Rattle.t3_ops.specs.Making.{when_read}

-- of a value that is neither a text nor a list
abbrev pub plain_key_of : StoreValue → Holder → Result Key Fault
plain_key_of store holders.Nil = Ok keys.Nil
plain_key_of store holders.True = Ok keys.True
plain_key_of store (holders.Int z) = Ok (keys.Int z)
plain_key_of store (holders.Enum n) = Ok (keys.Enum n)
plain_key_of store (holders.Prop n) = Ok (keys.Prop n)
plain_key_of store (holders.Func address) = Ok (keys.Func address)
plain_key_of store (holders.Obj number) = if is_some (value_at store number) then Ok (keys.Obj number) else Err Stale
plain_key_of store _ = Err KeyKind

-- a text is the key of its bytes, and no list is a key
abbrev pub key_by : TextOrList → Result Key Fault → Result Key Fault
key_by (OfText bytes) plain = when_read bytes (λ bytes. Ok (keys.Text bytes))
key_by (OfList _) plain = Err KeyKind
key_by Neither plain = plain

-- the key that a value is
abbrev pub key_of : Pool → StoreValue → Holder → Result Key Fault
key_of constants store value = key_by (text_or_list_of constants store value) (plain_key_of store value)
