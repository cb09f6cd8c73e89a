-- What is kept of the items passed, against the line that they make. Assumes nothing.
use Rattle.std.specs.Prelude.{Option, Some, None}
use mathlib.Core.Path.{◌≡◌, refl, sym, ap, ◌∙◌}
use mathlib.Core.List.{List, [], ◌∷◌, ◌++◌, append_assoc, append-nil}
use Prim.Native.Nat.{ℕ, suc, ◌+◌, ◌-◌, ◌≤◌, ◌<◌}
use native.Mathlib.Nat.{add-zero}
use native.Mathlib.Omega.{arith}
use borrow.Author.Tests.{lt-leb}
use lib.ListN.{length, set, replicate, length-append}
use lib.Seq.{set-append_seam}
use Rattle.sdp.specs.declared.Method.{Method}
use Rattle.sdp.specs.declared.Method.TheVariants.{Rtp}
use Rattle.sdp.specs.declared.Mode.{Mode}
use Rattle.sdp.specs.declared.Ect.{Ect}
use Rattle.sdp.specs.declared.Attribute.{Attribute}
use Rattle.sdp.specs.declared.steps.Part.{Part}
use Rattle.sdp.specs.declared.steps.Part.TheVariants as part
use Rattle.sdp.specs.declared.steps.Item.{Item}
use Rattle.sdp.specs.declared.steps.Item.TheVariants as item
use Rattle.sdp.specs.declared.reader.Tally.{Tally}
use Rattle.sdp.specs.Grammar.{Init, Parm, Line}
use Rattle.sdp.specs.Reading.{methods_of, modes_of, ects_of, maybe_mode, maybe_ect, attribute_of, kept}
use Rattle.sdp.specs.Answers.{with_method}
use Rattle.sdp.specs.Steps.{Entry, item_of}
use Rattle.sdp.specs.Tallies.{in_methods, in_parms, is_mode, is_ect, or_mode, or_ect, with_item, no_tally, noted, Small}
use Rattle.sdp.proofs.Derivations.{line_of}

-- ---- one item

pub methods_most : (p : Part) → in_methods p ≤ 1
methods_most part.Methods = omega arith
methods_most part.Parms = omega arith

pub parms_most : (p : Part) → in_parms p ≤ 1
parms_most part.Methods = omega arith
parms_most part.Parms = omega arith

pub mode_most : (i : Item) → is_mode i ≤ 1
mode_most (item.Known m) = omega arith
mode_most (item.Mode m) = omega arith
mode_most (item.Ect e) = omega arith
mode_most item.Other = omega arith
mode_most item.Nothing = omega arith

pub ect_most : (i : Item) → is_ect i ≤ 1
ect_most (item.Known m) = omega arith
ect_most (item.Mode m) = omega arith
ect_most (item.Ect e) = omega arith
ect_most item.Other = omega arith
ect_most item.Nothing = omega arith

pub noted_small : (t : Tally) (p : Part) (i : Item) (n m : ℕ) → Small t n → n < m → Small (noted t p i) m
unfolding noted
noted_small t p i n m h l =
    record {
      methods = omega (arith, methods_most p, h.methods);
      parms = omega (arith, parms_most p, h.parms);
      modes = omega (arith, mode_most i, h.modes);
      ects = omega (arith, ect_most i, h.ects);
    }

-- ---- all of them

abbrev pub part_of : Entry → Part
part_of (Entry.method x) = part.Methods
part_of (Entry.parm x) = part.Parms

unfoldable pub tallied : Tally → List Entry → Tally
tallied t [] = t
tallied t (x ∷ xs) = tallied (noted t (part_of x) (item_of x)) xs

pub record Counts (t : Tally) (w : Line) (r : Tally) : Type 0 where
  pub methods : r.methods ≡ t.methods + length w.methods
  pub parms : r.parms ≡ t.parms + length w.parms
  pub modes : r.modes ≡ t.modes + length (modes_of w.parms)
  pub ects : r.ects ≡ t.ects + length (ects_of w.parms)

pub counts : (xs : List Entry) (t : Tally) → Counts t (line_of xs) (tallied t xs)
unfolding tallied noted
counts [] t = record { methods = sym (add-zero _); parms = sym (add-zero _); modes = sym (add-zero _); ects = sym (add-zero _) }
counts (Entry.method (Init.known m) ∷ xs) t =
    let c = counts xs (noted t part.Methods (item.Known m)) in
    record { methods = omega (arith, c.methods); parms = omega (arith, c.parms); modes = omega (arith, c.modes); ects = omega (arith, c.ects) }
counts (Entry.method (Init.other s) ∷ xs) t =
    let c = counts xs (noted t part.Methods item.Other) in
    record { methods = omega (arith, c.methods); parms = omega (arith, c.parms); modes = omega (arith, c.modes); ects = omega (arith, c.ects) }
counts (Entry.parm (Parm.mode m) ∷ xs) t =
    let c = counts xs (noted t part.Parms (item.Mode m)) in
    record { methods = omega (arith, c.methods); parms = omega (arith, c.parms); modes = omega (arith, c.modes); ects = omega (arith, c.ects) }
counts (Entry.parm (Parm.ect e) ∷ xs) t =
    let c = counts xs (noted t part.Parms (item.Ect e)) in
    record { methods = omega (arith, c.methods); parms = omega (arith, c.parms); modes = omega (arith, c.modes); ects = omega (arith, c.ects) }
counts (Entry.parm (Parm.other n v) ∷ xs) t =
    let c = counts xs (noted t part.Parms item.Other) in
    record { methods = omega (arith, c.methods); parms = omega (arith, c.parms); modes = omega (arith, c.modes); ects = omega (arith, c.ects) }

-- ---- the record

-- one method more at the end
pub with_one_more : (ms : List Method) (m : Method) (o : Option Mode) (e : Option Ect) → length ms < 8
    → with_method (attribute_of ms o e) m ≡ attribute_of (ms ++ (m ∷ [])) o e
unfolding with_method attribute_of
with_one_more ms m o e h =
    let n : length (ms ++ (m ∷ [])) ≡ length ms + 1 = length-append ms (m ∷ []) in
    let k : 8 - length ms ≡ suc (8 - length (ms ++ (m ∷ []))) = omega arith in
    let rest = replicate (8 - length (ms ++ (m ∷ []))) Rtp in
    let q : set (ms ++ replicate (8 - length ms) Rtp) (length ms) m ≡ (ms ++ (m ∷ [])) ++ rest =
    rw k (set-append_seam ms Rtp rest m ∙ sym (append_assoc ms (m ∷ []) rest)) in
    rw (lt-leb 8 (length ms) h) (λ i. record { used = sym n i; methods = q i; mode = o; ect = e })

or_absent : (o : Option Mode) → or_mode o None ≡ o
or_absent None = refl
or_absent (Some m) = refl

or_none : (e : Option Ect) → or_ect e None ≡ e
or_none None = refl
or_none (Some m) = refl

or_first : (o : Option Mode) (m : Mode) (later : Option Mode) → or_mode (or_mode o (Some m)) later ≡ or_mode o (Some m)
or_first None m later = refl
or_first (Some n) m later = refl

or_earlier_lem : (o : Option Ect) (m : Ect) (later : Option Ect) → or_ect (or_ect o (Some m)) later ≡ or_ect o (Some m)
or_earlier_lem None m later = refl
or_earlier_lem (Some n) m later = refl

mode_set_lem : (t : Tally) (ms : List Method) (o : Option Mode) (e : Option Ect) (m : Mode) → t.attribute ≡ attribute_of ms o e
    → with_item t.attribute (item.Mode m) ≡ attribute_of ms (or_mode o (Some m)) e
unfolding attribute_of
mode_set_lem t ms o e m h = ap (λ (a : Attribute). with_item a (item.Mode m)) h

ect_set_lem : (t : Tally) (ms : List Method) (o : Option Mode) (e : Option Ect) (x : Ect) → t.attribute ≡ attribute_of ms o e
    → with_item t.attribute (item.Ect x) ≡ attribute_of ms o (or_ect e (Some x))
unfolding attribute_of
ect_set_lem t ms o e x h = ap (λ (a : Attribute). with_item a (item.Ect x)) h

pub keeps : (xs : List Entry) (t : Tally) (ms : List Method) (o : Option Mode) (e : Option Ect) → t.attribute ≡ attribute_of ms o e
    → length ms + length (methods_of (line_of xs).methods) ≤ 8
    → (tallied t xs).attribute
    ≡ attribute_of (ms ++ methods_of (line_of xs).methods) (or_mode o (maybe_mode (modes_of (line_of xs).parms))) (or_ect e (maybe_ect (ects_of (line_of xs).parms)))
unfolding tallied noted
keeps [] t ms o e h l = rw (append-nil, or_absent, or_none) h
keeps (Entry.method (Init.known m) ∷ xs) t ms o e h l =
    let n = length-append ms (m ∷ []) in
    let a : with_method t.attribute m ≡ attribute_of (ms ++ (m ∷ [])) o e = ap (λ (a : Attribute). with_method a m) h ∙ with_one_more ms m o e (omega arith) in
    rw (append_assoc ms (m ∷ []) (methods_of (line_of xs).methods)) at (keeps xs (noted t part.Methods (item.Known m)) (ms ++ (m ∷ [])) o e a (omega arith))
keeps (Entry.method (Init.other s) ∷ xs) t ms o e h l = keeps xs (noted t part.Methods item.Other) ms o e h l
keeps (Entry.parm (Parm.mode m) ∷ xs) t ms o e h l =
    rw or_first at (keeps xs (noted t part.Parms (item.Mode m)) ms (or_mode o (Some m)) e (mode_set_lem t ms o e m h) l)
keeps (Entry.parm (Parm.ect x) ∷ xs) t ms o e h l =
    rw or_earlier_lem at (keeps xs (noted t part.Parms (item.Ect x)) ms o (or_ect e (Some x)) (ect_set_lem t ms o e x h) l)
keeps (Entry.parm (Parm.other n v) ∷ xs) t ms o e h l = keeps xs (noted t part.Parms item.Other) ms o e h l

-- the methods kept are no more than those passed
methods_few : (xs : List Init) → length (methods_of xs) ≤ length xs
methods_few [] = omega arith
methods_few (Init.known m ∷ xs) = let h = methods_few xs in omega arith
methods_few (Init.other s ∷ xs) = let h = methods_few xs in omega arith

pub kept_all : (xs : List Entry) → length (line_of xs).methods ≤ 8 → (tallied no_tally xs).attribute ≡ kept (line_of xs)
kept_all xs h = keeps xs no_tally [] None None refl (let f = methods_few (line_of xs).methods in omega arith)
