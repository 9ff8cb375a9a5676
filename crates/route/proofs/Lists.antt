-- Lists: equal at each, equal mapped.
use mathlib.Core.Path.{◌≡◌, refl}
use mathlib.Core.List.{List, [], ◌∷◌, map}
use Rattle.network.specs.Lists.{All}

-- equal at each, equal mapped
pub map_cong : {A B : Type 0} (P : A → Type 0) (f g : A → B) → ((a : A) → P a → f a ≡ g a) → (l : List A) → All P l → map f l ≡ map g l
map_cong P f g h [] a = refl
map_cong P f g h (x ∷ l) a = cc (h x a.0, map_cong P f g h l a.1)
