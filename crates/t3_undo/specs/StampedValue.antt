-- A stamp, and a value or none.
use Rattle.std.specs.Prelude.{ℕ, Option, refl}
use Rattle.std.specs.Coded.{Coded, code_by, coded×, coded_ℕ, coded_option}
use Rattle.t3_holder.specs.declared.holder.Holder.{Holder}
use Rattle.t3_undo.specs.Content.{coded_holder}

-- the place of a property or an element: a stamp, and the value if it is present
pub record ValuePlace : Type 0 where
  pub stamp : ℕ
  pub value : Option Holder

abbrev pub coded_value_place : Coded ValuePlace
coded_value_place =
    code_by (ℕ × Option Holder) (coded× coded_ℕ (coded_option coded_holder)) (λ p. (p.stamp, p.value))
    (λ c. record { stamp = c.0; value = c.1 }) (λ _. refl)
