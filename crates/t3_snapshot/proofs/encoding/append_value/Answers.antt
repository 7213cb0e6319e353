use Rattle.std.proofs.Common.{refl, sym, ap, subst, ◌∙◌, ◌++◌, map, Some, IsSome}
use Rattle.t3_store.specs.Value.{Vector, is_class_at, props_at}
use Rattle.t3_tadsobj.specs.Props.{pair_of}
use Rattle.t3_snapshot.specs.Inner.Writing.{WritableAt, trimmed_text, tads_written}
use Rattle.t3_snapshot.proofs.Written.{on_ok}
use Rattle.t3_snapshot.proofs.Trim.{is_tads, tads_text, tads_fits, is_string, is_list, is_vector, is_table_at, table_is, made}
use Rattle.t3_snapshot.proofs.encoding.append_value.Goals as goal

pub props-requires : goal.props-requires
props-requires c = subst IsSome c.in-Some.ensures refl

pub append_tads_value-requires : goal.append_tads_value-requires
append_tads_value-requires c =
    let o = c.args.object.now in
    let fits = tads_fits c.args.state.now c.in-Some.supers.now (is_class_at o) (props_at o) (map pair_of c.items.result.now)
    (ap (map pair_of) c.items.ensures.items ∙ c.in_ok-props.ensures.props)
    (subst (WritableAt c.args.state.now) (is_tads o c.in-Some.supers.now (sym c.in-Some.ensures)) c.requires) in
    record { few = fits.0; props = fits.1 }

pub returns-in-Some : goal.returns-in-Some
returns-in-Some c =
    let o = c.args.object.now in
    on_ok c.append_tads_value.result _ _ c.append_tads_value.ensures
    (λ e. e ∙ ap (λ x. c.args.out.now.items ++ x)
    (ap (λ class. tads_written c.args.state.now c.in-Some.supers.now class (map pair_of c.items.result.now)) c.is_class-class.ensures
    ∙ tads_text c.args.state.now c.in-Some.supers.now (is_class_at o) (props_at o) (map pair_of c.items.result.now)
    (ap (map pair_of) c.items.ensures.items ∙ c.in_ok-props.ensures.props)
    ∙ ap (trimmed_text c.args.state.now) (sym (is_tads o c.in-Some.supers.now (sym c.in-Some.ensures)))))

pub append_string_value-requires : goal.append_string_value-requires
append_string_value-requires c =
    subst (WritableAt c.args.state.now) (is_string c.args.state.now _ _ (sym c.in-Some-text.ensures)) c.requires

pub returns-in-Some-text : goal.returns-in-Some-text
returns-in-Some-text c = on_ok c.append_string_value.result _ _ c.append_string_value.ensures
    (λ e. e ∙ ap (λ o. c.args.out.now.items ++ trimmed_text c.args.state.now o)
    (sym (is_string c.args.state.now _ _ (sym c.in-Some-text.ensures))))

pub append_list_value-requires : goal.append_list_value-requires
append_list_value-requires c = subst (WritableAt c.args.state.now) (is_list _ _ (sym c.in-Some-items.ensures)) c.requires

pub returns-in-Some-items : goal.returns-in-Some-items
returns-in-Some-items c = on_ok c.append_list_value.result _ _ c.append_list_value.ensures
    (λ e. e ∙ ap (λ o. c.args.out.now.items ++ trimmed_text c.args.state.now o) (sym (is_list _ _ (sym c.in-Some-items.ensures))))

pub elements-requires : goal.elements-requires
elements-requires c = is_vector _ _ (sym c.in-Some-length.ensures.length)

pub append_vector_value-requires : goal.append_vector_value-requires
append_vector_value-requires c =
    subst (WritableAt c.args.state.now) (c.in_ok-items.ensures ∙ ap (λ xs. Some (Vector xs)) (sym c.deref.ensures.value)) c.requires

pub returns-in-Some-length : goal.returns-in-Some-length
returns-in-Some-length c = on_ok c.append_vector_value.result _ _ c.append_vector_value.ensures
    (λ e. e ∙ ap (λ o. c.args.out.now.items ++ trimmed_text c.args.state.now o)
    (sym (c.in_ok-items.ensures ∙ ap (λ xs. Some (Vector xs)) (sym c.deref.ensures.value))))

pub entries-requires : goal.entries-requires
entries-requires c = is_table_at c.args.state.now _ c.requires (sym c.in_default.ensures) (sym c.in_default-text.ensures)
    (sym c.in_default-items.ensures) (sym c.in_default-length.ensures.length)

pub append_table_value-requires : goal.append_table_value-requires
append_table_value-requires c =
    let is = table_is c.args.object.now c.in_ok-pairs.pairs c.in_ok-pairs.ensures in
    subst (WritableAt c.args.state.now) (is ∙ made _ _ _ _ (sym c.items-3.ensures.items) (sym c.default_of.ensures)) c.requires

pub returns : goal.returns
returns c = on_ok c.append_table_value.result _ _ c.append_table_value.ensures
    (λ e. e ∙ ap (λ o. c.args.out.now.items ++ trimmed_text c.args.state.now o)
    (sym (table_is c.args.object.now c.in_ok-pairs.pairs c.in_ok-pairs.ensures
    ∙ made _ _ _ _ (sym c.items-3.ensures.items) (sym c.default_of.ensures))))
