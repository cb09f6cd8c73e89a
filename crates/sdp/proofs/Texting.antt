-- Laws of the line while it is made, and of the methods of a record. Assumes nothing.
use Rattle.std.specs.Prelude.{Option, Some, None}
use mathlib.Core.Path.{◌≡◌, refl, sym, ap, ◌∙◌}
use Rattle.std.specs.List.{list_any}
use mathlib.Core.Bool.{Bool, true, false}
use mathlib.Core.List.{List, [], ◌∷◌, ◌++◌, append_assoc, append-nil, map}
use Prim.Native.Nat.{ℕ, zero, suc, ◌-◌, ◌+◌, ◌*◌, ◌≤◌, ◌<◌}
use native.Mathlib.Nat.{add-zero}
use native.Mathlib.Numerals.{add-one}
use native.Mathlib.Omega.{arith}
use lib.ListN.{length, take, drop, get_or, length-append, length-take, length-map, drop_of_length-le}
use lib.Seq.{drop-cons}
use Rattle.answers.specs.Texts.{codes}
use Rattle.sdp.specs.declared.Method.{Method}
use Rattle.sdp.specs.declared.Attribute.{Attribute}
use Rattle.sdp.specs.declared.writer.Text.{Text}
use Rattle.sdp.specs.declared.Method.TheVariants.{Rtp, Ice, Leap}
use Rattle.sdp.specs.declared.Mode.{Mode}
use Rattle.sdp.specs.declared.Mode.TheVariants.{SetOnly, SetRead, ReadOnly}
use Rattle.sdp.specs.declared.Ect.{Ect}
use Rattle.sdp.specs.declared.Ect.TheVariants.{Zero, One, Random}
use Rattle.sdp.specs.Grammar.{method_text, mode_text, ect_text}
use Rattle.sdp.specs.Writing.{methods_in, with_commas, with_parms, attribute_bytes}
use Rattle.sdp.specs.Texts.{text_in, Grown}
use Rattle.sdp.specs.Answers.{same_method, names, first_in}

-- ---- the methods of a record

pub methods_long : (a : Attribute) → a.used ≤ 8 → length a.methods ≡ 8 → length (methods_in a) ≡ a.used
methods_long a h l =
    omega (arith, length-take a.used a.methods)

-- from a place on: that method and those behind it
pub method_next : (l : List Method) (i : ℕ) (d : Method) → i < length l → drop i l ≡ get_or l i d ∷ drop (i + 1) l
method_next l i d h = rw (add-one i) (drop-cons l i d h)

pub methods_done : (l : List Method) (i : ℕ) → length l ≤ i → drop i l ≡ []
methods_done l i h = drop_of_length-le l {i = i} h

-- the first method of a record, and those behind it
pub methods_first : (a : Attribute) (d : Method) → 1 ≤ a.used → length a.methods ≡ 8
    → methods_in a ≡ get_or a.methods 0 d ∷ take (a.used - 1) (drop 1 a.methods)
methods_first a d h l = go a.used a.methods h (omega arith)
  where
    go : (n : ℕ) (ms : List Method) → 1 ≤ n → 0 < length ms → take n ms ≡ get_or ms 0 d ∷ take (n - 1) (drop 1 ms)
    go zero ms h k = absurd (omega arith)
    go (suc n) [] h k = absurd (omega arith)
    go (suc n) (m ∷ ms) h k = let e : suc n - 1 ≡ n = omega arith in rw e refl

-- a list is as long as another made of it
pub length-mapped : (X Y : Type 0) (f : X → Y) (l : List X) (n : ℕ) → length (map f l) ≡ n → length l ≡ n
length-mapped X Y f l n e = sym (length-map l f) ∙ e

module _ (offered l : List Method) (ours : Attribute) (x : Method) (i : ℕ) (e : drop i l ≡ x ∷ drop (i + 1) l) where
  pub first_goes : names offered x ≡ false → first_in offered (drop (i + 1) l) ours ≡ first_in offered (drop i l) ours
  unfolding first_in
  first_goes h = rw (e, h)

  pub first_stops : names offered x ≡ true → Some (record { method = x; mode = ours.mode; ect = ours.ect }) ≡ first_in offered (drop i l) ours
  unfolding first_in
  first_stops h = rw (e, h)

pub first_done : (offered l : List Method) (ours : Attribute) (i : ℕ) → drop i l ≡ [] → None ≡ first_in offered (drop i l) ours
unfolding first_in
first_done offered l ours i e = rw e

-- ---- texts that grow

pub grown_none : (t : Text) → Grown t t []
grown_none t = record { text = sym (append-nil (text_in t)); long = sym (add-zero t.long) }

pub grown_grown : {t u v : Text} {a b : List ℕ} → Grown t u a → Grown u v b → Grown t v (a ++ b)
grown_grown {t} {u} {v} {a} {b} g h =
    record {
      text = h.text ∙ ap (λ (l : List ℕ). l ++ b) g.text ∙ append_assoc (text_in t) a b;
      long = omega (arith, g.long, h.long, length-append a b);
    }

-- the methods behind the first, each behind a comma
pub behind_commas : List Method → List ℕ
behind_commas [] = []
behind_commas (m ∷ ms) = 44 ∷ (method_text m ++ behind_commas ms)

pub commas : (m : Method) (ms : List Method) → with_commas (m ∷ ms) ≡ method_text m ++ behind_commas ms
unfolding with_commas behind_commas
commas m [] = sym (append-nil (method_text m))
commas m (n ∷ ms) = ap (λ (l : List ℕ). method_text m ++ (44 ∷ l)) (commas n ms)

pub method_most : (m : Method) → length (method_text m) ≤ 4
method_most Rtp = omega arith
method_most Ice = omega arith
method_most Leap = omega arith

pub method_least : (m : Method) → 3 ≤ length (method_text m)
method_least Rtp = omega arith
method_least Ice = omega arith
method_least Leap = omega arith

-- what is left to write, written, is the whole
pub record Left (l : List Method) (t₀ t : Text) (i : ℕ) : Type 0 where
  pub text : text_in t ++ behind_commas (drop i l) ≡ text_in t₀ ++ behind_commas l
  pub long : t.long + length (behind_commas (drop i l)) ≡ t₀.long + length (behind_commas l)

pub left_goes : {l : List Method} {t₀ t u v : Text} {i : ℕ} (m : Method) → drop i l ≡ m ∷ drop (i + 1) l → Grown t u (44 ∷ []) → Grown u v (method_text m)
    → Left l t₀ t i → Left l t₀ v (i + 1)
unfolding behind_commas
left_goes {l} {t₀} {t} {u} {v} {i} m e g h w =
    let rest = behind_commas (drop (i + 1) l) in
    let k = grown_grown g h in
    let a : behind_commas (drop i l) ≡ (44 ∷ method_text m) ++ rest = ap behind_commas e in
    record {
      text = ap (λ (x : List ℕ). x ++ rest) k.text ∙ append_assoc (text_in t) (44 ∷ method_text m) rest ∙ ap (λ (x : List ℕ). text_in t ++ x) (sym a) ∙ w.text;
      long = omega (arith, w.long, k.long, ap length a, length-append (44 ∷ method_text m) rest);
    }

pub left_ends : {l : List Method} {t₀ t : Text} {i : ℕ} → drop i l ≡ [] → Left l t₀ t i → Grown t₀ t (behind_commas l)
unfolding behind_commas
left_ends {l} {t₀} {t} {i} e w =
    record {
      text = sym (append-nil (text_in t)) ∙ ap (λ (x : List Method). text_in t ++ behind_commas x) (sym e) ∙ w.text;
      long = omega (arith, w.long, ap (λ (x : List Method). length (behind_commas x)) e);
    }

pub mode_most : (m : Mode) → length (mode_text m) ≤ 13
mode_most SetOnly = omega arith
mode_most SetRead = omega arith
mode_most ReadOnly = omega arith

pub parms_behind : (m : Mode) (e : Ect) → with_parms (Some m) (Some e) ≡ ((32 ∷ []) ++ mode_text m) ++ ((59 ∷ 32 ∷ []) ++ ect_text e)
unfolding with_parms
parms_behind m e = refl

-- ---- sizes

behind_most : (l : List Method) → length (behind_commas l) ≤ 5 * length l
unfolding behind_commas
behind_most [] = omega arith
behind_most (m ∷ l) = omega (arith, behind_most l, method_most m, length-append (method_text m) (behind_commas l))

pub commas_bounds : (l : List Method) → 0 < length l → (3 ≤ length (with_commas l)) × (length (with_commas l) + 1 ≤ 5 * length l)
commas_bounds [] h = absurd (omega arith)
commas_bounds (m ∷ l) h =
    let e = ap length (commas m l) in let a = length-append (method_text m) (behind_commas l) in
    (omega (arith, e, a, method_least m), omega (arith, e, a, behind_most l, method_most m))

ect_most : (e : Ect) → length (ect_text e) ≤ 10
ect_most Zero = omega arith
ect_most One = omega arith
ect_most Random = omega arith

pub parms_most : (o : Option Mode) (e : Option Ect) → length (with_parms o e) ≤ 26
unfolding with_parms
parms_most None None = omega arith
parms_most None (Some e) = omega (arith, ect_most e)
parms_most (Some m) None = omega (arith, mode_most m)
parms_most (Some m) (Some e) = omega (arith, mode_most m, ect_most e, length-append (mode_text m) (59 ∷ 32 ∷ ect_text e))

-- the whole line
pub text_whole : (a : Attribute) {n t u r : Text} → n.long ≡ 0 → 1 ≤ a.used → a.used ≤ 8 → length a.methods ≡ 8 → Grown n t (codes "a=ecn-capable-rtp: ")
    → Grown t u (with_commas (methods_in a)) → Grown u r (with_parms a.mode a.ect)
    → (text_in r ≡ attribute_bytes a) × ((r.long ≡ length (attribute_bytes a)) × (r.long ≤ 96))
unfolding attribute_bytes
text_whole a {n} {t} {u} {r} z one few l g h k =
    let w = grown_grown g (grown_grown h k) in
    let e : text_in n ≡ [] = rw z in
    let b = commas_bounds (methods_in a) (omega (arith, methods_long a few l)) in (
      w.text ∙ ap (λ (x : List ℕ). x ++ attribute_bytes a) e,
      (omega (arith, w.long, z), omega (arith, g.long, h.long, k.long, z, b.1, parms_most a.mode a.ect, methods_long a few l)),
    )

pub parms_room : (a : Attribute) {t u : Text} → t.long ≡ 19 → 1 ≤ a.used → a.used ≤ 8 → length a.methods ≡ 8
    → Grown t u (with_commas (methods_in a)) → u.long + 26 ≤ 96
parms_room a z one few l h =
    let n = methods_long a few l in let b = commas_bounds (methods_in a) (omega arith) in omega (arith, h.long, z, b.1, n)

-- ---- std's words for whether a list names a method

pub named_any : {eq : Method → Method → Bool} → ((x y : Method) → eq x y ≡ same_method x y) → (l : List Method) (m : Method) → list_any (λ x. eq x m) l ≡ names l m
unfolding names
named_any e [] m = refl
named_any e (x ∷ l) m = cc (e x m, named_any e l m)
