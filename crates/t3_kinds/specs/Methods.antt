-- The methods of the kinds of objects, by their indices (the chapters on metaclasses; which are there is this project's profile).
use Rattle.std.specs.Prelude.{ℕ, ◌==◌, Bool, true, false, ◌&&◌, nat_eq, nat_le, codes, List, [], ◌∷◌, length, Option, Some, None, is_some, Result, Err, if◌then◌else◌}
use Rattle.std.specs.List.{find, starts_with, ends_with}
use Rattle.t3_holder.specs.declared.holder.Holder.{Holder}
use Rattle.t3_pools.specs.Pool.{Pool}
use Rattle.t3_store.specs.Store.{StoreValue}
use Rattle.t3_ops.specs.declared.fault.Fault.{Fault}
use Rattle.t3_ops.specs.declared.fault.Fault.TheVariants.{ArgCount, NoMethod}
use Rattle.t3_kinds.specs.declared.methods.Methods.{Methods}
use Rattle.t3_kinds.specs.declared.methods.Methods.TheVariants.{Root, Tads, Text, List as Listed, Vector, Table}
use Rattle.t3_kinds.specs.declared.methods.Method.{Method}
use Rattle.t3_kinds.specs.declared.methods.Method.TheVariants as of
use Rattle.t3_kinds.specs.declared.methods.RootMethod.{RootMethod}
use Rattle.t3_kinds.specs.declared.methods.RootMethod.TheVariants as root
use Rattle.t3_kinds.specs.declared.methods.TadsMethod.{TadsMethod}
use Rattle.t3_kinds.specs.declared.methods.TadsMethod.TheVariants as tads
use Rattle.t3_kinds.specs.declared.methods.TextMethod.{TextMethod}
use Rattle.t3_kinds.specs.declared.methods.TextMethod.TheVariants as text
use Rattle.t3_kinds.specs.declared.methods.ListMethod.{ListMethod}
use Rattle.t3_kinds.specs.declared.methods.ListMethod.TheVariants as list
use Rattle.t3_kinds.specs.declared.methods.VectorMethod.{VectorMethod}
use Rattle.t3_kinds.specs.declared.methods.VectorMethod.TheVariants as vector
use Rattle.t3_kinds.specs.declared.methods.TableMethod.{TableMethod}
use Rattle.t3_kinds.specs.declared.methods.TableMethod.TheVariants as table
use Rattle.t3_kinds.specs.Changes.{Deed}
use Rattle.t3_kinds.specs.Deeds.{answers, when_text, when_list, first_of, second_of}
use Rattle.t3_kinds.specs.RootMethods.{of_kind_of, superclass_list_of, prop_defined_of, is_class_deed, is_transient_deed}
use Rattle.t3_kinds.specs.TadsMethods.{create_clone_of}
use Rattle.t3_kinds.specs.TextMethods.{text_length_of, substr_of, compared_texts}
use Rattle.t3_kinds.specs.ListMethods.{with_turns, list_length_of, sublist_of, list_index_of, list_append_of, index_of}
use Rattle.t3_kinds.specs.VectorMethods.{when_vector, to_list_of, vector_length_of, set_length_of, remove_element_of, vector_append_of}
use Rattle.t3_kinds.specs.TableMethods.{TableValue, when_table, is_key_present_of, remove_entry_of, entry_count_of, key_list_of, value_list_of, set_default_of}

-- ---- the table

-- a method by its kind and its index there, its name, and the least and the greatest count of its arguments
pub record MethodRow : Type 0 where
  pub kind : Methods
  pub index : ℕ
  pub name : List ℕ
  pub least : ℕ
  pub most : ℕ

abbrev row : Methods → ℕ → List ℕ → ℕ → ℕ → MethodRow
row kind index name least most = record { kind = kind; index = index; name = name; least = least; most = most }

-- kind, index, name, least and most arguments
abbrev pub row_of : Method → MethodRow
row_of (of.Root root.OfKind) = row Root 0 (codes "ofKind") 1 1
row_of (of.Root root.GetSuperclassList) = row Root 1 (codes "getSuperclassList") 0 0
row_of (of.Root root.PropDefined) = row Root 2 (codes "propDefined") 1 1
row_of (of.Root root.IsClass) = row Root 6 (codes "isClass") 0 0
row_of (of.Root root.IsTransient) = row Root 8 (codes "isTransient") 0 0
row_of (of.Tads tads.CreateClone) = row Tads 1 (codes "createClone") 0 0
row_of (of.Text text.Length) = row Text 0 (codes "length") 0 0
row_of (of.Text text.Substr) = row Text 1 (codes "substr") 1 2
row_of (of.Text text.StartsWith) = row Text 7 (codes "startsWith") 1 1
row_of (of.Text text.EndsWith) = row Text 8 (codes "endsWith") 1 1
row_of (of.List list.Length) = row Listed 2 (codes "length") 0 0
row_of (of.List list.Sublist) = row Listed 3 (codes "sublist") 1 2
row_of (of.List list.IndexOf) = row Listed 5 (codes "indexOf") 1 1
row_of (of.List list.Append) = row Listed 18 (codes "append") 1 1
row_of (of.Vector vector.ToList) = row Vector 0 (codes "toList") 0 0
row_of (of.Vector vector.Length) = row Vector 1 (codes "length") 0 0
row_of (of.Vector vector.IndexOf) = row Vector 10 (codes "indexOf") 1 1
row_of (of.Vector vector.SetLength) = row Vector 20 (codes "setLength") 1 1
row_of (of.Vector vector.RemoveElementAt) = row Vector 22 (codes "removeElementAt") 1 1
row_of (of.Vector vector.Append) = row Vector 24 (codes "append") 1 1
row_of (of.Table table.IsKeyPresent) = row Table 0 (codes "isKeyPresent") 1 1
row_of (of.Table table.RemoveElement) = row Table 1 (codes "removeElement") 1 1
row_of (of.Table table.GetEntryCount) = row Table 5 (codes "getEntryCount") 0 0
row_of (of.Table table.KeysToList) = row Table 7 (codes "keysToList") 0 0
row_of (of.Table table.ValsToList) = row Table 8 (codes "valsToList") 0 0
row_of (of.Table table.GetDefaultValue) = row Table 9 (codes "getDefaultValue") 0 0
row_of (of.Table table.SetDefaultValue) = row Table 10 (codes "setDefaultValue") 1 1

-- each of them
abbrev pub every : List Method
every =
    of.Root root.OfKind ∷ of.Root root.GetSuperclassList ∷ of.Root root.PropDefined ∷ of.Root root.IsClass ∷ of.Root root.IsTransient
    ∷ of.Tads tads.CreateClone
    ∷ of.Text text.Length ∷ of.Text text.Substr ∷ of.Text text.StartsWith ∷ of.Text text.EndsWith
    ∷ of.List list.Length ∷ of.List list.Sublist ∷ of.List list.IndexOf ∷ of.List list.Append
    ∷ of.Vector vector.ToList ∷ of.Vector vector.Length ∷ of.Vector vector.IndexOf ∷ of.Vector vector.SetLength
    ∷ of.Vector vector.RemoveElementAt ∷ of.Vector vector.Append
    ∷ of.Table table.IsKeyPresent ∷ of.Table table.RemoveElement ∷ of.Table table.GetEntryCount ∷ of.Table table.KeysToList
    ∷ of.Table table.ValsToList ∷ of.Table table.GetDefaultValue ∷ of.Table table.SetDefaultValue ∷ []

abbrev pub same_methods : Methods → Methods → Bool
same_methods Root Root = true
same_methods Tads Tads = true
same_methods Text Text = true
same_methods Listed Listed = true
same_methods Vector Vector = true
same_methods Table Table = true
same_methods _ _ = false

abbrev pub is_row_at : Methods → ℕ → MethodRow → Bool
is_row_at kind index row = same_methods kind row.kind && row.index == index

-- the method of an index of a kind, if there is one
abbrev pub method_at : Methods → ℕ → Option Method
method_at kind index = find (λ method. is_row_at kind index (row_of method)) every

-- whether there is one
abbrev pub is_listed : Methods → ℕ → Bool
is_listed kind index = is_some (method_at kind index)

-- whether that count of arguments is taken
abbrev pub takes : MethodRow → ℕ → Bool
takes row count = nat_le row.least count && nat_le count row.most

-- ---- what they come to, on self, with arguments of which the first is the topmost operand

abbrev pub root_deed : StoreValue → RootMethod → Holder → List Holder → Result Deed Fault
root_deed store root.OfKind this args = of_kind_of store this (first_of args)
root_deed store root.GetSuperclassList this args = superclass_list_of store this
root_deed store root.PropDefined this args = prop_defined_of store this (first_of args)
root_deed store root.IsClass this args = is_class_deed store this
root_deed store root.IsTransient this args = is_transient_deed store this

abbrev pub tads_deed : StoreValue → TadsMethod → Holder → Result Deed Fault
tads_deed store tads.CreateClone this = create_clone_of store this

abbrev pub text_deed : Pool → StoreValue → TextMethod → List Holder → Option (List ℕ) → Result Deed Fault
text_deed constants store text.Length args bytes = text_length_of bytes
text_deed constants store text.Substr args bytes = substr_of store bytes (first_of args) (second_of args)
text_deed constants store text.StartsWith args bytes = compared_texts (starts_with nat_eq) constants store bytes (first_of args)
text_deed constants store text.EndsWith args bytes = compared_texts (ends_with nat_eq) constants store bytes (first_of args)

-- the turns are those that comparisons have, and then those that they leave
abbrev pub list_deed : Pool → StoreValue → ℕ → ListMethod → List Holder → Option (List Holder) → Result (Deed × ℕ) Fault
list_deed constants store turns list.Length args items = with_turns turns (list_length_of items)
list_deed constants store turns list.Sublist args items = with_turns turns (sublist_of store items (first_of args) (second_of args))
list_deed constants store turns list.IndexOf args items = list_index_of constants store turns items (first_of args)
list_deed constants store turns list.Append args items = with_turns turns (list_append_of store items (first_of args))

abbrev pub vector_deed : Pool → StoreValue → ℕ → VectorMethod → List Holder → (object : ℕ) → List Holder → Result (Deed × ℕ) Fault
vector_deed constants store turns vector.ToList args object items = with_turns turns (to_list_of store items)
vector_deed constants store turns vector.Length args object items = with_turns turns (vector_length_of items)
vector_deed constants store turns vector.IndexOf args object items = index_of constants store turns (first_of args) items
vector_deed constants store turns vector.SetLength args object items = with_turns turns (set_length_of object items (first_of args))
vector_deed constants store turns vector.RemoveElementAt args object items = with_turns turns (remove_element_of object items (first_of args))
vector_deed constants store turns vector.Append args object items = with_turns turns (vector_append_of object items (first_of args))

abbrev pub table_deed : Pool → StoreValue → TableMethod → List Holder → (object : ℕ) → TableValue → Result Deed Fault
table_deed constants store table.IsKeyPresent args object value = is_key_present_of constants store value.pairs (first_of args)
table_deed constants store table.RemoveElement args object value = remove_entry_of constants store object value.pairs (first_of args)
table_deed constants store table.GetEntryCount args object value = entry_count_of value.pairs
table_deed constants store table.KeysToList args object value = key_list_of store value.pairs
table_deed constants store table.ValsToList args object value = value_list_of store value.pairs
table_deed constants store table.GetDefaultValue args object value = answers value.default
table_deed constants store table.SetDefaultValue args object value = set_default_of object (first_of args)

-- the fault of a self of another kind than the method's comes before those of its arguments
unfoldable pub method_deed : Pool → StoreValue → ℕ → Method → Holder → List Holder → Result (Deed × ℕ) Fault
method_deed constants store turns (of.Root method) this args = with_turns turns (root_deed store method this args)
method_deed constants store turns (of.Tads method) this args = with_turns turns (tads_deed store method this)
method_deed constants store turns (of.Text method) this args =
    with_turns turns (when_text constants store this (text_deed constants store method args))
method_deed constants store turns (of.List method) this args = when_list constants store this (list_deed constants store turns method args)
method_deed constants store turns (of.Vector method) this args = when_vector store this (vector_deed constants store turns method args)
method_deed constants store turns (of.Table method) this args =
    with_turns turns (when_table store this (table_deed constants store method args))

-- the arguments are counted before the method is looked at
abbrev pub counted_deed : Pool → StoreValue → ℕ → Method → Holder → List Holder → Result (Deed × ℕ) Fault
counted_deed constants store turns method this args =
    if takes (row_of method) (length args) then method_deed constants store turns method this args else Err ArgCount

abbrev pub deed_by : Pool → StoreValue → ℕ → Holder → List Holder → Option Method → Result (Deed × ℕ) Fault
deed_by constants store turns this args None = Err NoMethod
deed_by constants store turns this args (Some method) = counted_deed constants store turns method this args

-- what the method of an index of a kind comes to, and the turns that it leaves
abbrev pub listed_deed : Pool → StoreValue → ℕ → Methods → ℕ → Holder → List Holder → Result (Deed × ℕ) Fault
listed_deed constants store turns kind index this args = deed_by constants store turns this args (method_at kind index)
