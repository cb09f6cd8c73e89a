-- A promise in the paper's terms follows from the one on the answer itself. Assumes nothing.
use mathlib.Core.Path.{◌≡◌, ap}

pub numbered : {A B : Type 0} (f : A → B) {x y : A} → x ≡ y → (x ≡ y) × (f x ≡ f y)
numbered f e = (e, ap f e)
