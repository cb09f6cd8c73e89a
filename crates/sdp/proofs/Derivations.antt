-- The reader as a function on lists: complete for the grammar and sound, so that a line has one reading. Assumes nothing.
use Rattle.std.specs.Prelude.{Option, Some, None}
use mathlib.Core.Path.{◌≡◌, refl, sym, ap, ◌∙◌, subst}
use mathlib.Core.Bool.{Bool, true, false, cond, false≢true}
use mathlib.Core.List.{List, [], ◌∷◌, ◌++◌, append_assoc, append-nil}
use Prim.Native.Nat.{ℕ, zero, suc, ◌+◌, ◌≤◌, ◌<◌}
use native.Mathlib.Omega.{arith}
use borrow.Author.Tests.{eqb-true, eq-eqb}
use lib.Dec.{eqb}
use lib.ListN.{length, take, drop, get_or, length-append, length-map, take-append-drop}
use lib.Seq.{take_at, drop_at, drop-cons, get_or-append_seam}
use Rattle.sdp.specs.declared.steps.Part.{Part}
use Rattle.sdp.specs.declared.steps.Part.TheVariants as part
use Rattle.sdp.specs.declared.steps.Found.{Found}
use Rattle.sdp.specs.declared.steps.Found.TheVariants as found
use Rattle.sdp.specs.declared.steps.Step.{Step}
use Rattle.sdp.specs.Grammar.{lower, Is, attribute_name, Init, Parm, Line, Joined, Methods, Parms, Derives}
use Rattle.sdp.specs.Theorems.{OneReading}
use Rattle.sdp.specs.Steps.{spelled, begins, Entry, EntryIs, Between}
use Rattle.sdp.proofs.Fits.{inside, behind, counted}
use Rattle.sdp.proofs.Spelling.{is_spelled, spelled_is}
use Rattle.sdp.proofs.Items.{method_token, shape}
use Rattle.sdp.proofs.Turns.{token_long, step_of, entry_at, met_last, met_more, Right, right}

-- ---- both lists in one

-- the items from one of p on, to the end
pub data Items : Part → List ℕ → List Entry → Type 0 where
  last : {p : Part} {s : List ℕ} {x : Entry} → EntryIs p s x → Items p s (x ∷ [])
  more : {p : Part} (q : Part) (u b t : List ℕ) {s : List ℕ} {x : Entry} {xs : List Entry} → EntryIs p u x → Between p q b → Items q t xs
      → s ≡ u ++ (b ++ t) → Items p s (x ∷ xs)

abbrev pub consed : Entry → Option (List Entry) → Option (List Entry)
consed x None = None
consed x (Some xs) = Some (x ∷ xs)

abbrev pub turn : Found → Entry → Option (List Entry) → Option (List Entry)
turn found.Nothing x later = None
turn found.Last x later = Some (x ∷ [])
turn found.More x later = consed x later

unfoldable pub items : ℕ → Part → List ℕ → ℕ → Option (List Entry)
items zero p s at = None
items (suc k) p s at =
    let w = step_of p s at in let later = items k w.part s w.at in turn w.found (entry_at p s at) later

pub entry_long : {p : Part} {u : List ℕ} {x : Entry} → EntryIs p u x → 0 < length u
entry_long (EntryIs.method h) = token_long (method_token h)
entry_long (EntryIs.parm h) =
    let g = shape h in let l = ap length g.joined in let a = length-append g.name (61 ∷ g.value) in omega arith

module _ (s : List ℕ) (at : ℕ) (u b t : List ℕ) (fits : at ≤ length s) (e : drop at s ≡ u ++ (b ++ t)) where
  -- the place of the next item
  next_here : drop (at + (length u + length b)) s ≡ t
  next_here = rw (← length-append u b) (behind s at (u ++ b) t (e ∙ sym (append_assoc u b t)))

  pub next_fits : at + (length u + length b) ≤ length s
  next_fits = let c = counted s at u (b ++ t) fits e in let l = length-append b t in omega arith

pub items_whole : {p : Part} {t : List ℕ} {xs : List Entry} → Items p t xs → (s : List ℕ) (at k : ℕ) → at ≤ length s → drop at s ≡ t → length s ≤ at + k
    → items k p s at ≡ Some xs
unfolding items
items_whole {p} {t} (Items.last h) s at zero f e l =
    let c = counted s at t [] f (e ∙ sym (append-nil t)) in let n = entry_long h in absurd (omega arith)
items_whole {p} (Items.last {x = x} h) s at (suc k) f e l =
    let (a, b) = met_last s at f p (subst (λ (r : List ℕ). EntryIs p r x) (sym e) h) in rw (a, b)
items_whole {p} (Items.more q u b t h w is j) s at zero f e l =
    let c = counted s at u (b ++ t) f (e ∙ j) in let n = entry_long h in absurd (omega arith)
items_whole {p} (Items.more q u b t h w is j) s at (suc k) f e l =
    let (a, c) = met_more s at f p q u b t h w (e ∙ j) in
    let n = entry_long h in
    rw (a, c, items_whole is s (at + (length u + length b)) k (next_fits s at u b t f (e ∙ j)) (next_here s at u b t f (e ∙ j)) (omega arith))

pub items_found : (k : ℕ) (p : Part) (s : List ℕ) (at : ℕ) (xs : List Entry) → at ≤ length s → items k p s at ≡ Some xs → Items p (drop at s) xs
unfolding items
items_found zero p s at xs f e = let z : ◌≡◌ {A = ℕ} 0 1 = cc in absurd (omega arith)
items_found (suc k) p s at xs f e = go (step_of p s at) (right s at f p) (items_found k) e
  where
    rest : (x : Entry) (q : Part) (n : ℕ) (later : Option (List Entry)) → items k q s n ≡ later → consed x later ≡ Some xs
        → (ys : List Entry) × (items k q s n ≡ Some ys) × (xs ≡ x ∷ ys)
    rest x q n None i c = let z : ◌≡◌ {A = ℕ} 0 1 = cc in absurd (omega arith)
    rest x q n (Some ys) i c = (ys, i, cc)

    go : (w : Step) → Right p s at w → ((q : Part) (s : List ℕ) (n : ℕ) (ys : List Entry) → n ≤ length s → items k q s n ≡ Some ys → Items q (drop n s) ys)
        → turn w.found (entry_at p s at) (items k w.part s w.at) ≡ Some xs → Items p (drop at s) xs
    go w Right.nothing ih c = let z : ◌≡◌ {A = ℕ} 0 1 = cc in absurd (omega arith)
    go w (Right.last h) ih c = let z : xs ≡ entry_at p s at ∷ [] = cc in rw z (Items.last h)
    go w (Right.more q u b t h v d) ih c =
        let (ys, i, z) = rest (entry_at p s at) q (at + (length u + length b)) (items k q s (at + (length u + length b))) refl c in
        let j = ih q s (at + (length u + length b)) ys (next_fits s at u b t f d) i in
        rw z (Items.more q u b t h v (subst (λ (r : List ℕ). Items q r ys) (next_here s at u b t f d) j) d)

-- ---- a line of them

abbrev pub line_of : List Entry → Line
line_of [] = record { methods = []; parms = [] }
line_of (Entry.method x ∷ xs) = record { methods = x ∷ (line_of xs).methods; parms = (line_of xs).parms }
line_of (Entry.parm x ∷ xs) = record { methods = (line_of xs).methods; parms = x ∷ (line_of xs).parms }

-- methods and parameters as items, and back
parms_items : {t : List ℕ} {ys : List Parm} → Parms t ys → (xs : List Entry) × Items part.Parms t xs × (line_of xs ≡ record { methods = []; parms = ys })
parms_items (Joined.one {x = x} h) = (Entry.parm x ∷ [], Items.last (EntryIs.parm h), refl)
parms_items (Joined.more u t {x = x} h js e) =
    let (xs, is, l) = parms_items js in (
      Entry.parm x ∷ xs,
      Items.more part.Parms u (59 ∷ 32 ∷ []) t (EntryIs.parm h) Between.semicolon is e,
      ap (λ (w : Line). record { methods = w.methods; parms = x ∷ w.parms }) l,
    )

methods_items : {s : List ℕ} {xs : List Init} → Methods s xs → (ys : List Entry) × Items part.Methods s ys × (line_of ys ≡ record { methods = xs; parms = [] })
methods_items (Joined.one {x = x} h) = (Entry.method x ∷ [], Items.last (EntryIs.method h), refl)
methods_items (Joined.more u t {x = x} h js e) =
    let (xs, is, l) = methods_items js in (
      Entry.method x ∷ xs,
      Items.more part.Methods u (44 ∷ []) t (EntryIs.method h) Between.comma is e,
      ap (λ (w : Line). record { methods = x ∷ w.methods; parms = w.parms }) l,
    )

both_items : {s t r : List ℕ} {xs : List Init} {ys : List Parm} → Methods s xs → Parms t ys → r ≡ s ++ (32 ∷ t)
    → (zs : List Entry) × Items part.Methods r zs × (line_of zs ≡ record { methods = xs; parms = ys })
both_items {s} {t} (Joined.one {x = x} h) ps e =
    let (zs, is, l) = parms_items ps in (
      Entry.method x ∷ zs,
      Items.more part.Parms s (32 ∷ []) t (EntryIs.method h) Between.space is e,
      ap (λ (w : Line). record { methods = x ∷ w.methods; parms = w.parms }) l,
    )
both_items {s} {t} (Joined.more u v {x = x} h js j) ps e =
    let (zs, is, l) = both_items {t = t} {r = v ++ (32 ∷ t)} js ps refl in (
      Entry.method x ∷ zs,
      Items.more part.Methods u (44 ∷ []) (v ++ (32 ∷ t)) (EntryIs.method h) Between.comma is
          (e ∙ ap (λ (r : List ℕ). r ++ (32 ∷ t)) j ∙ append_assoc u (44 ∷ v) (32 ∷ t)),
      ap (λ (w : Line). record { methods = x ∷ w.methods; parms = w.parms }) l,
    )

items_parms : {t : List ℕ} {xs : List Entry} → Items part.Parms t xs → Parms t (line_of xs).parms × ((line_of xs).methods ≡ [])
items_parms (Items.last (EntryIs.parm h)) = (Joined.one h, refl)
items_parms (Items.more q u b t (EntryIs.parm h) Between.semicolon is e) =
    let (js, m) = items_parms is in (Joined.more u t h js e, m)

-- a list of methods, alone or with parameters behind it
pub data Listing : List ℕ → Line → Type 0 where
  alone : {s : List ℕ} {xs : List Init} → Methods s xs → Listing s (record { methods = xs; parms = [] })
  with_parms : (s t : List ℕ) {r : List ℕ} {xs : List Init} {ys : List Parm} → Methods s xs → Parms t ys → r ≡ s ++ (32 ∷ t)
      → Listing r (record { methods = xs; parms = ys })

pub items_listing : {s : List ℕ} {xs : List Entry} → Items part.Methods s xs → Listing s (line_of xs)
items_listing (Items.last (EntryIs.method h)) = Listing.alone (Joined.one h)
items_listing {s} (Items.more q u b t (EntryIs.method {x = x} h) Between.comma is e) = go (items_listing is)
  where
    go : {w : Line} → Listing t w → Listing s (record { methods = x ∷ w.methods; parms = w.parms })
    go (Listing.alone ms) = Listing.alone (Joined.more u t h ms e)
    go (Listing.with_parms v r ms ps j) =
        Listing.with_parms (u ++ (44 ∷ v)) r (Joined.more u v h ms refl) ps
        (e ∙ ap (λ (l : List ℕ). u ++ (44 ∷ l)) j ∙ sym (append_assoc u (44 ∷ v) (32 ∷ r)))
items_listing {s} (Items.more q u b t {xs = xs} (EntryIs.method {x = x} h) Between.space is e) =
    let (ps, m) = items_parms is in
    subst (λ (l : List Init). Listing s (record { methods = x ∷ l; parms = (line_of xs).parms })) (sym m) (Listing.with_parms u t (Joined.one h) ps e)

-- ---- the attribute's name in front

named_long : (a : List ℕ) → Is attribute_name a → length a ≡ 18
named_long a e = sym (length-map a lower) ∙ ap length e

begun : (a r : List ℕ) (s : List ℕ) → Is attribute_name a → s ≡ a ++ (32 ∷ r) → (begins s ≡ true) × (drop 19 s ≡ r) × (19 ≤ length s)
unfolding begins
begun a r s h e =
    let n = named_long a h in
    let g : get_or s 18 0 ≡ 32 = rw (e, ← n) (get_or-append_seam a 32 r 0) in
    let t : take 18 s ≡ a = rw e (take_at a (32 ∷ r) 18 n) in
    let m : length (a ++ (32 ∷ [])) ≡ 19 = omega (arith, length-append a (32 ∷ []), n) in (
      rw (eq-eqb (get_or s 18 0) 32 g, t) (is_spelled attribute_name a h),
      rw (e, ← append_assoc a (32 ∷ []) r) (drop_at (a ++ (32 ∷ [])) r 19 m),
      omega (arith, ap length e, length-append a (32 ∷ r), n),
    )

pub begun_back : (s : List ℕ) → begins s ≡ true → Is attribute_name (take 18 s) × (s ≡ take 18 s ++ (32 ∷ drop 19 s)) × (19 ≤ length s)
unfolding begins
begun_back s e = go (eqb (get_or s 18 0) 32) refl e
  where
    go : (b : Bool) → eqb (get_or s 18 0) 32 ≡ b → cond b (spelled attribute_name (take 18 s)) false ≡ true
        → Is attribute_name (take 18 s) × (s ≡ take 18 s ++ (32 ∷ drop 19 s)) × (19 ≤ length s)
    go false h t = absurd (false≢true t)
    go true h t =
        let g = eqb-true (get_or s 18 0) 32 h in
        let l = inside s 18 (λ z. omega arith) in
        let d : drop 18 s ≡ 32 ∷ drop 19 s = drop-cons s 18 0 l ∙ ap (λ (c : ℕ). c ∷ drop 19 s) g in
        (spelled_is attribute_name (take 18 s) t, sym (take-append-drop 18 s) ∙ ap (λ (r : List ℕ). take 18 s ++ r) d, l)

-- what derives is read, and what is read derives
pub derives_items : {s : List ℕ} {x : Line} → Derives s x
    → (begins s ≡ true) × (19 ≤ length s) × ((xs : List Entry) × (items (length s) part.Methods s 19 ≡ Some xs) × (line_of xs ≡ x))
derives_items {s} (Derives.alone a r h ms e) =
    let (b, d, l) = begun a r s h e in
    let (xs, is, i) = methods_items ms in (b, l, (xs, items_whole is s 19 (length s) l d (omega arith), i))
derives_items {s} (Derives.with_parms a r t h ms ps e) =
    let (b, d, l) = begun a (r ++ (32 ∷ t)) s h e in
    let (xs, is, i) = both_items ms ps refl in (b, l, (xs, items_whole is s 19 (length s) l d (omega arith), i))

pub items_derives : (s : List ℕ) (xs : List Entry) → begins s ≡ true → items (length s) part.Methods s 19 ≡ Some xs → Derives s (line_of xs)
items_derives s xs b e =
    let (h, j, l) = begun_back s b in go (items_listing (items_found (length s) part.Methods s 19 xs l e)) h j
  where
    go : {w : Line} → Listing (drop 19 s) w → Is attribute_name (take 18 s) → s ≡ take 18 s ++ (32 ∷ drop 19 s) → Derives s w
    go (Listing.alone ms) h j = Derives.alone (take 18 s) (drop 19 s) h ms j
    go (Listing.with_parms r t ms ps i) h j =
        Derives.with_parms (take 18 s) r t h ms ps (j ∙ ap (λ (l : List ℕ). take 18 s ++ (32 ∷ l)) i)

pub one_reading : OneReading
one_reading s x y d e =
    let (a, b, (xs, i, p)) = derives_items d in
    let (f, g, (ys, j, q)) = derives_items e in
    let z : xs ≡ ys = cc in sym p ∙ ap line_of z ∙ q
