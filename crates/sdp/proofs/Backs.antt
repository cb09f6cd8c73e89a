-- What is written reads back, and its size. Assumes nothing.
use Rattle.std.specs.Prelude.{Option, Some, None, Ok}
use mathlib.Core.Path.{◌≡◌, refl, ap}
use mathlib.Core.Bool.{Bool, true, false, cond}
use mathlib.Core.List.{List, [], ◌∷◌, ◌++◌, append-nil, map}
use Prim.Native.Nat.{ℕ, ◌≤◌, ◌<◌}
use native.Mathlib.Omega.{arith}
use borrow.Author.Tests.{eqb-false, ltb-false}
use lib.Dec.{eqb, ltb}
use lib.ListN.{length, length-append, length-map}
use Rattle.answers.specs.Texts.{codes}
use Rattle.answers.specs.declared.Refusal.TheVariants.{Limits}
use Rattle.sdp.specs.declared.Method.{Method}
use Rattle.sdp.specs.declared.Method.TheVariants.{Rtp, Ice, Leap}
use Rattle.sdp.specs.declared.Mode.{Mode}
use Rattle.sdp.specs.declared.Mode.TheVariants.{SetOnly, SetRead, ReadOnly}
use Rattle.sdp.specs.declared.Ect.{Ect}
use Rattle.sdp.specs.declared.Ect.TheVariants.{Zero, One, Random}
use Rattle.sdp.specs.declared.Attribute.{Attribute}
use Rattle.sdp.specs.Grammar.{lower, method_text, mode_text, ect_text, Init, Parm, Line, MethodIs, ParmIs, Joined, Methods, Derives}
use Rattle.sdp.specs.Reading.{methods_of, modes_of, ects_of, maybe_mode, maybe_ect, attribute_of, kept, Reads}
use Rattle.sdp.specs.Writing.{methods_in, with_commas, with_parms, attribute_bytes, write_fault}
use Rattle.sdp.specs.Theorems.{Writable, ReadsBack, WrittenFits}
use Rattle.sdp.proofs.Texting.{methods_long, commas_bounds, parms_most}

-- ---- the texts are their own lower case

method_is : (m : Method) → MethodIs (method_text m) (Init.known m)
unfolding lower
method_is Rtp = MethodIs.known Rtp refl
method_is Ice = MethodIs.known Ice refl
method_is Leap = MethodIs.known Leap refl

mode_is : (m : Mode) → ParmIs (mode_text m) (Parm.mode m)
unfolding lower
mode_is SetOnly = ParmIs.mode SetOnly refl
mode_is SetRead = ParmIs.mode SetRead refl
mode_is ReadOnly = ParmIs.mode ReadOnly refl

ect_is : (e : Ect) → ParmIs (ect_text e) (Parm.ect e)
unfolding lower
ect_is Zero = ParmIs.ect Zero refl
ect_is One = ParmIs.ect One refl
ect_is Random = ParmIs.ect Random refl

-- ---- the line that is written derives

methods_are : (m : Method) (ms : List Method) → Methods (with_commas (m ∷ ms)) (map Init.known (m ∷ ms))
unfolding with_commas
methods_are m [] = Joined.one (method_is m)
methods_are m (n ∷ ms) = Joined.more (method_text m) (with_commas (n ∷ ms)) (method_is m) (methods_are n ms) refl

parms_of : Option Mode → Option Ect → List Parm
parms_of None None = []
parms_of None (Some e) = Parm.ect e ∷ []
parms_of (Some m) None = Parm.mode m ∷ []
parms_of (Some m) (Some e) = Parm.mode m ∷ Parm.ect e ∷ []

abbrev line_for : List Method → Option Mode → Option Ect → Line
line_for ms o e = record { methods = map Init.known ms; parms = parms_of o e }

written_derives : (m : Method) (ms : List Method) (o : Option Mode) (e : Option Ect)
    → Derives (codes "a=ecn-capable-rtp: " ++ (with_commas (m ∷ ms) ++ with_parms o e)) (line_for (m ∷ ms) o e)
unfolding with_parms parms_of lower
written_derives m ms None None =
    Derives.alone (codes "a=ecn-capable-rtp:") (with_commas (m ∷ ms)) refl (methods_are m ms)
    (ap (λ (l : List ℕ). codes "a=ecn-capable-rtp: " ++ l) (append-nil (with_commas (m ∷ ms))))
written_derives m ms None (Some e) =
    Derives.with_parms (codes "a=ecn-capable-rtp:") (with_commas (m ∷ ms)) (ect_text e) refl (methods_are m ms) (Joined.one (ect_is e)) refl
written_derives m ms (Some o) None =
    Derives.with_parms (codes "a=ecn-capable-rtp:") (with_commas (m ∷ ms)) (mode_text o) refl (methods_are m ms) (Joined.one (mode_is o)) refl
written_derives m ms (Some o) (Some e) =
    Derives.with_parms (codes "a=ecn-capable-rtp:") (with_commas (m ∷ ms)) (mode_text o ++ (59 ∷ 32 ∷ ect_text e)) refl (methods_are m ms)
    (Joined.more (mode_text o) (ect_text e) (mode_is o) (Joined.one (ect_is e)) refl) refl

-- ---- and says what the record does

methods_back : (ms : List Method) → methods_of (map Init.known ms) ≡ ms
methods_back [] = refl
methods_back (m ∷ ms) = ap (λ (l : List Method). m ∷ l) (methods_back ms)

record Parted (o : Option Mode) (e : Option Ect) : Type 0 where
  one_mode : length (modes_of (parms_of o e)) ≤ 1
  one_ect : length (ects_of (parms_of o e)) ≤ 1
  few : length (parms_of o e) ≤ 8
  mode : maybe_mode (modes_of (parms_of o e)) ≡ o
  ect : maybe_ect (ects_of (parms_of o e)) ≡ e

parted : (o : Option Mode) (e : Option Ect) → Parted o e
unfolding parms_of
parted None None = record { one_mode = omega arith; one_ect = omega arith; few = omega arith; mode = refl; ect = refl }
parted None (Some e) = record { one_mode = omega arith; one_ect = omega arith; few = omega arith; mode = refl; ect = refl }
parted (Some m) None = record { one_mode = omega arith; one_ect = omega arith; few = omega arith; mode = refl; ect = refl }
parted (Some m) (Some e) = record { one_mode = omega arith; one_ect = omega arith; few = omega arith; mode = refl; ect = refl }

-- a record that is not refused has one to eight methods
pub sound_used : (a : Attribute) → write_fault a ≡ None → (1 ≤ a.used) × (a.used ≤ 8)
unfolding write_fault
sound_used a e = go (eqb a.used 0) refl (ltb 8 a.used) refl e
  where
    go : (b : Bool) → eqb a.used 0 ≡ b → (d : Bool) → ltb 8 a.used ≡ d → cond b (Some Limits) (cond d (Some Limits) None) ≡ None
        → (1 ≤ a.used) × (a.used ≤ 8)
    go true p d q t = let z : ◌≡◌ {A = ℕ} 0 1 = cc in absurd (omega arith)
    go false p true q t = let z : ◌≡◌ {A = ℕ} 0 1 = cc in absurd (omega arith)
    go false p false q t = let n = eqb-false a.used 0 p in (omega arith, ltb-false 8 a.used q)

bytes_bounds : (a : Attribute) → Writable a → (22 ≤ length (attribute_bytes a)) × (length (attribute_bytes a) ≤ 84)
unfolding attribute_bytes
bytes_bounds a w =
    let (one, few) = sound_used a w.sound in
    let n = methods_long a few w.places in
    let b = commas_bounds (methods_in a) (omega arith) in
    let l = length-append (with_commas (methods_in a)) (with_parms a.mode a.ect) in
    let p = parms_most a.mode a.ect in (omega (arith, b.0), omega (arith, b.1))

pub written_fits : WrittenFits
written_fits = bytes_bounds

pub reads_back : ReadsBack
unfolding attribute_bytes
reads_back a w =
    let (one, few) = sound_used a w.sound in
    let n = methods_long a few w.places in
    go (methods_in a) refl (omega arith) (omega arith)
  where
    go : (l : List Method) → methods_in a ≡ l → 0 < length l → length l ≤ 8
        → Reads (attribute_bytes a) (Ok (attribute_of (methods_in a) a.mode a.ect))
    go [] e h k = absurd (omega arith)
    go (m ∷ ms) e h k =
        let p = parted a.mode a.ect in
        let d : Derives (attribute_bytes a) (line_for (m ∷ ms) a.mode a.ect) = rw e (written_derives m ms a.mode a.ect) in
        let r : attribute_of (methods_in a) a.mode a.ect ≡ kept (line_for (m ∷ ms) a.mode a.ect) = rw (e, methods_back ms, p.mode, p.ect) in
        rw r (Reads.given (let b = bytes_bounds a w in omega arith) (record { derived = d; one_mode = p.one_mode; one_ect = p.one_ect })
        (let c = length-map (m ∷ ms) Init.known in omega arith) p.few)
