-- What holds of a result's variant, and what holds then. And options of what is lent.
use Rattle.std.proofs.Common.{◌≡◌, refl, Option, None, Some, Result, Ok, Err, Bor}
use Rattle.std.specs.Option.{option_map}
use Rattle.std.specs.Result.{IfOk, OnOk, OnErr}

pub OnOk-map : {X E : Type 0} (r : Result X E) {P Q : Type 0} → (P → Q) → OnOk r P → OnOk r Q
OnOk-map (Ok x) f p = f p
OnOk-map (Err e) f p = p

pub OnErr-map : {X E : Type 0} (r : Result X E) {P Q : Type 0} → (P → Q) → OnErr r P → OnErr r Q
OnErr-map (Ok x) f p = p
OnErr-map (Err e) f p = f p

pub option_map-now : {X Y : Type 0} (f : X → Y) (o : Option (Bor X)) → option_map (λ b. f b.now) o ≡ option_map f (option_map (λ b. b.now) o)
option_map-now f None = refl
option_map-now f (Some b) = refl

pub IfOk-map : {X E : Type 0} (r : Result X E) {P Q : X → Type 0} → ((x : X) → P x → Q x) → IfOk r P → IfOk r Q
IfOk-map (Ok x) f p = f x p
IfOk-map (Err e) f p = p
