-- One turn of the reader as a function: complete for the grammar and sound. Assumes nothing.
use mathlib.Core.Path.{◌≡◌, refl, sym, ap, ◌∙◌, subst}
use mathlib.Core.Bool.{false, cond}
use mathlib.Core.List.{List, [], ◌∷◌, ◌++◌, append_assoc, append-nil}
use Prim.Native.Nat.{ℕ, suc, ◌+◌, ◌-◌, ◌≤◌, ◌<◌}
use native.Mathlib.Omega.{arith}
use borrow.Author.Tests.{eqb-false, eqb-true, eq-eqb, ne_eqb, leb-true, leb-false, le-leb, lt-leb}
use lib.Dec.{eqb, leb}
use lib.ListN.{length, drop, get_or, length-append, drop_of_length-le, length-drop}
use lib.Seq.{take_at}
use Rattle.sdp.specs.declared.steps.Part.{Part}
use Rattle.sdp.specs.declared.steps.Part.TheVariants as part
use Rattle.sdp.specs.declared.steps.Item.{Item}
use Rattle.sdp.specs.declared.steps.Found.TheVariants as found
use Rattle.sdp.specs.declared.steps.Step.{Step}
use Rattle.sdp.specs.Grammar.{token_char, Token, Value, Init, Parm, MethodIs, ParmIs}
use Rattle.sdp.specs.Lengths.{token_end, value_end}
use Rattle.sdp.specs.Steps.{method_item, parm_item, is_nothing, step, no_step, last_step, behind_method, behind_parm, between, parm_value}
use Rattle.sdp.specs.Steps.{Entry, EntryIs, item_of, Between, Stands}
use Rattle.sdp.proofs.Fits.{peek, peek_first, inside, front, behind, counted, Stops, token_within}
use Rattle.sdp.proofs.Found.{cond_cases}
use Rattle.sdp.proofs.Values.{token_here, token_at, value_whole, value_found}
use Rattle.sdp.proofs.Items.{to_init, to_parm, method_token, method_named, method_is, shape, parm_is}

-- ---- the turn

unfoldable pub method_step : List ℕ → ℕ → Step
method_step s at = cond (eqb (token_end s at) at) no_step (behind_method s (token_end s at) (method_item (between s at (token_end s at))))

unfoldable pub parm_step : List ℕ → ℕ → Step
parm_step s at = cond (eqb (token_end s at) at) no_step (cond (eqb (get_or s (token_end s at) 0) 61) (parm_value s at (token_end s at)) no_step)

abbrev pub step_of : Part → List ℕ → ℕ → Step
step_of part.Methods s at = method_step s at
step_of part.Parms s at = parm_step s at

unfoldable pub method_at : List ℕ → ℕ → Init
method_at s at = let u = between s at (token_end s at) in to_init u (method_item u)

unfoldable pub parm_at : List ℕ → ℕ → Parm
parm_at s at =
    let n = between s at (token_end s at) in let v = between s (token_end s at + 1) (value_end s (token_end s at + 1)) in to_parm n v (parm_item n v)

-- the item at a place, with its bytes
abbrev pub entry_at : Part → List ℕ → ℕ → Entry
entry_at part.Methods s at = Entry.method (method_at s at)
entry_at part.Parms s at = Entry.parm (parm_at s at)

-- ---- what stands behind an item

between_part : (s : List ℕ) (at : ℕ) (u r : List ℕ) → drop at s ≡ u ++ r → between s at (at + length u) ≡ u
between_part s at u r e = let n : at + length u - at ≡ length u = omega arith in rw (n, e) (take_at u r (length u) refl)

-- the bytes behind an item: none, or those before the next and the rest
pub data Behind (p : Part) : List ℕ → Type 0 where
  end : Behind p []
  next : (q : Part) (b t : List ℕ) → Between p q b → Behind p (b ++ t)

behind_stops : {p : Part} {r : List ℕ} → Behind p r → Stops r
unfolding token_char
behind_stops end = tt
behind_stops (next q b t Between.comma) = refl
behind_stops (next q b t Between.space) = refl
behind_stops (next q b t Between.semicolon) = refl

-- the step that this makes of an item which ends at a place
abbrev pub step_behind : {p : Part} {r : List ℕ} → Behind p r → Item → ℕ → Step
step_behind end i at = last_step i
step_behind (next q b t w) i at = step found.More i q (at + length b)

module _ (s : List ℕ) (at : ℕ) (i : Item) where
  method_behind : {r : List ℕ} (w : Behind part.Methods r) → at ≤ length s → drop at s ≡ r → behind_method s at i ≡ step_behind w i at
  unfolding behind_method
  method_behind end h e = let l = ap length e in let d = length-drop at s in rw (le-leb (length s) at (omega arith))
  method_behind (next q b t Between.comma) h e =
      let p = peek_first s at e in let l = inside s at (λ z. omega arith) in rw (lt-leb (length s) at l, eq-eqb (get_or s at 0) 44 p)
  method_behind (next q b t Between.space) h e =
      let p = peek_first s at e in let l = inside s at (λ z. omega arith) in
      rw (lt-leb (length s) at l, ne_eqb (get_or s at 0) 44 (λ z. omega arith), eq-eqb (get_or s at 0) 32 p)

  parm_behind : {r : List ℕ} (w : Behind part.Parms r) → at ≤ length s → drop at s ≡ r → behind_parm s at i ≡ step_behind w i at
  unfolding behind_parm
  parm_behind end h e = let l = ap length e in let d = length-drop at s in rw (le-leb (length s) at (omega arith))
  parm_behind (next q b t Between.semicolon) h e =
      let p = peek_first s at e in let l = inside s at (λ z. omega arith) in
      rw (lt-leb (length s) at l, eq-eqb (get_or s at 0) 59 p, eq-eqb (get_or s (at + 1) 0) 32 (peek s at 1 e))

-- ---- complete: an item of the grammar with what stands behind it is found

pub token_long : {u : List ℕ} → Token u → 0 < length u
token_long (Token.one e) = omega arith
token_long (Token.more e t) = omega arith

pub value_long : {v : List ℕ} → Value v → 0 < length v
value_long (Value.token t) = token_long t
value_long (Value.quoted q qs e) = let l = ap length e in omega arith

init_back : {u : List ℕ} {x : Init} → MethodIs u x → to_init u (item_of (Entry.method x)) ≡ x
init_back (MethodIs.known m e) = refl
init_back (MethodIs.other t h) = refl

module _ (s : List ℕ) (at : ℕ) (fits : at ≤ length s) where
  method_met : {u : List ℕ} {x : Init} {r : List ℕ} → MethodIs u x → (w : Behind part.Methods r) → drop at s ≡ u ++ r
      → (method_step s at ≡ step_behind w (item_of (Entry.method x)) (at + length u)) × (method_at s at ≡ x)
  unfolding method_step method_at
  method_met {u} {x} {r} h w e =
      let t = method_token h in
      let l = token_long t in
      let k = token_at s at r t (behind_stops w) e in
      let c = counted s at u r fits e in (
        rw (k, ne_eqb (at + length u) at (λ z. omega arith), between_part s at u r e, method_named h)
            (method_behind s (at + length u) (item_of (Entry.method x)) w (omega arith) (behind s at u r e)),
        rw (k, between_part s at u r e, method_named h) (init_back h),
      )

something : (x : Parm) → is_nothing (item_of (Entry.parm x)) ≡ false
something (Parm.mode m) = refl
something (Parm.ect e) = refl
something (Parm.other n v) = refl

module _ (s : List ℕ) (at : ℕ) (fits : at ≤ length s) where
  parm_met : {u : List ℕ} {x : Parm} {r : List ℕ} → ParmIs u x → (w : Behind part.Parms r) → drop at s ≡ u ++ r
      → (parm_step s at ≡ step_behind w (item_of (Entry.parm x)) (at + length u)) × (parm_at s at ≡ x)
  unfolding parm_step parm_at parm_value token_char
  parm_met {u} {x} {r} h w e =
      let g = shape h in
      let n = g.name in let v = g.value in
      let d : drop at s ≡ n ++ ((61 ∷ v) ++ r) = e ∙ ap (λ (l : List ℕ). l ++ r) g.joined ∙ append_assoc n (61 ∷ v) r in
      let k : token_end s at ≡ at + length n = token_at s at ((61 ∷ v) ++ r) g.named refl d in
      let l = token_long g.named in
      let m = value_long g.valued in
      let a : drop (at + length n) s ≡ (61 ∷ []) ++ (v ++ r) = behind s at n ((61 ∷ v) ++ r) d in
      let q : get_or s (at + length n) 0 ≡ 61 = peek_first s (at + length n) a in
      let b : drop (at + length n + 1) s ≡ v ++ r = behind s (at + length n) (61 ∷ []) (v ++ r) a in
      let o : value_end s (at + length n + 1) ≡ at + length n + 1 + length v = value_whole s (at + length n + 1) r g.valued (behind_stops w) b in
      let c = counted s at u r fits e in
      let j : length u ≡ length n + suc (length v) = ap length g.joined ∙ length-append n (61 ∷ v) in
      let z : at + length n + 1 + length v ≡ at + length u = omega arith in (
        rw (
          k,
          ne_eqb (at + length n) at (λ y. omega arith),
          eq-eqb (get_or s (at + length n) 0) 61 q,
          o,
          lt-leb (at + length n + 1 + length v) (at + length n + 1) (omega arith),
          between_part s at n ((61 ∷ v) ++ r) d,
          between_part s (at + length n + 1) v r b,
          g.says,
          something x,
          z,
        )
            (parm_behind s (at + length u) (item_of (Entry.parm x)) w (omega arith) (behind s at u r e)),
        rw (k, o, between_part s at n ((61 ∷ v) ++ r) d, between_part s (at + length n + 1) v r b, g.says) g.back,
      )

  -- either list
  pub met : (p : Part) {u : List ℕ} {x : Entry} {r : List ℕ} → EntryIs p u x → (w : Behind p r) → drop at s ≡ u ++ r
      → (step_of p s at ≡ step_behind w (item_of x) (at + length u)) × (entry_at p s at ≡ x)
  met part.Methods (EntryIs.method h) w e = let (a, b) = method_met s at fits h w e in (a, ap Entry.method b)
  met part.Parms (EntryIs.parm h) w e = let (a, b) = parm_met h w e in (a, ap Entry.parm b)

  pub met_last : (p : Part) {x : Entry} → EntryIs p (drop at s) x → (step_of p s at ≡ last_step (item_of x)) × (entry_at p s at ≡ x)
  met_last p h = met p h end (sym (append-nil (drop at s)))

  pub met_more : (p q : Part) (u b t : List ℕ) {x : Entry} → EntryIs p u x → Between p q b → drop at s ≡ u ++ (b ++ t)
      → (step_of p s at ≡ step found.More (item_of x) q (at + (length u + length b))) × (entry_at p s at ≡ x)
  met_more p q u b t {x} h w e =
      let (a, c) = met p h (next q b t w) e in
      let z : at + length u + length b ≡ at + (length u + length b) = omega arith in (a ∙ ap (step found.More (item_of x) q) z, c)

-- ---- sound: what is found stands there

pub data Right (p : Part) (s : List ℕ) (at : ℕ) : Step → Type 0 where
  nothing : Right p s at no_step
  last : EntryIs p (drop at s) (entry_at p s at) → Right p s at (last_step (item_of (entry_at p s at)))
  more : (q : Part) (u b t : List ℕ) → EntryIs p u (entry_at p s at) → Between p q b → drop at s ≡ u ++ (b ++ t)
      → Right p s at (step found.More (item_of (entry_at p s at)) q (at + (length u + length b)))

-- an item that ends at a place, which a list of p may have
module _ (p : Part) (s : List ℕ) (at : ℕ) (u : List ℕ) (h : EntryIs p u (entry_at p s at)) (fits : at + length u ≤ length s)
    (here : drop at s ≡ u ++ drop (at + length u) s) where
  right_last : length s ≤ at + length u → Right p s at (last_step (item_of (entry_at p s at)))
  right_last l =
      Right.last (subst (λ (t : List ℕ). EntryIs p t (entry_at p s at)) (sym (here ∙ ap (λ (r : List ℕ). u ++ r) (drop_of_length-le s l) ∙ append-nil u)) h)

  right_more : (q : Part) (b t : List ℕ) → Between p q b → drop (at + length u) s ≡ b ++ t
      → Right p s at (step found.More (item_of (entry_at p s at)) q (at + length u + length b))
  right_more q b t w e =
      let z : at + (length u + length b) ≡ at + length u + length b = omega arith in
      rw (← z) (Right.more q u b t h w (here ∙ ap (λ (r : List ℕ). u ++ r) e))

module _ (s : List ℕ) (at : ℕ) (u : List ℕ) where
  method_right : EntryIs part.Methods u (entry_at part.Methods s at) → at + length u ≤ length s → drop at s ≡ u ++ drop (at + length u) s
      → Right part.Methods s at (behind_method s (at + length u) (item_of (entry_at part.Methods s at)))
  unfolding behind_method
  method_right h f e =
      let i = item_of (entry_at part.Methods s at) in let n = at + length u in
      cond_cases (Right part.Methods s at) (leb (length s) n) (λ l. right_last part.Methods s at u h f e (leb-true (length s) n l)) λ l.
      cond_cases (Right part.Methods s at) (eqb (get_or s n 0) 44)
      (λ c. right_more part.Methods s at u h f e part.Methods (44 ∷ []) (drop (n + 1) s) Between.comma
      (let d = eqb-true (get_or s n 0) 44 c in rw d at (front s n (λ z. omega arith)))) λ c.
      cond_cases (Right part.Methods s at) (eqb (get_or s n 0) 32)
      (λ d. right_more part.Methods s at u h f e part.Parms (32 ∷ []) (drop (n + 1) s) Between.space
      (let g = eqb-true (get_or s n 0) 32 d in rw g at (front s n (λ z. omega arith)))) λ d.
      Right.nothing

  parm_right : EntryIs part.Parms u (entry_at part.Parms s at) → at + length u ≤ length s → drop at s ≡ u ++ drop (at + length u) s
      → Right part.Parms s at (behind_parm s (at + length u) (item_of (entry_at part.Parms s at)))
  unfolding behind_parm
  parm_right h f e =
      let i = item_of (entry_at part.Parms s at) in let n = at + length u in
      cond_cases (Right part.Parms s at) (leb (length s) n) (λ l. right_last part.Parms s at u h f e (leb-true (length s) n l)) λ l.
      cond_cases (Right part.Parms s at) (eqb (get_or s n 0) 59)
      (λ c. cond_cases (Right part.Parms s at) (eqb (get_or s (n + 1) 0) 32)
      (λ d. right_more part.Parms s at u h f e part.Parms (59 ∷ 32 ∷ []) (drop (n + 1 + 1) s) Between.semicolon
      (let a = eqb-true (get_or s n 0) 59 c in let b = eqb-true (get_or s (n + 1) 0) 32 d in
      rw a at (front s n (λ z. omega arith)) ∙ ap (λ (r : List ℕ). 59 ∷ r) (rw b at (front s (n + 1) (λ z. omega arith)))))
      (λ d. Right.nothing))
      (λ c. Right.nothing)

module _ (s : List ℕ) (at : ℕ) (fits : at ≤ length s) where
  method_found : (u r : List ℕ) → Token u → drop at s ≡ u ++ r → token_end s at ≡ at + length u
      → Right part.Methods s at (behind_method s (token_end s at) (method_item (between s at (token_end s at))))
  unfolding method_at
  method_found u r t d k =
      let c = counted s at u r fits d in
      let b : between s at (token_end s at) ≡ u = rw k (between_part s at u r d) in
      let m : method_at s at ≡ to_init u (method_item u) = ap (λ (l : List ℕ). to_init l (method_item l)) b in
      let i : item_of (entry_at part.Methods s at) ≡ method_item u = ap (λ (x : Init). item_of (Entry.method x)) m ∙ (method_is u t).1 in
      let h : EntryIs part.Methods u (entry_at part.Methods s at) =
      subst (λ (x : Init). EntryIs part.Methods u (Entry.method x)) (sym m) (EntryIs.method (method_is u t).0) in
      let o = method_right s at u h (omega arith) (d ∙ ap (λ (l : List ℕ). u ++ l) (sym (behind s at u r d))) in
      subst (Right part.Methods s at) (cc) o

  right_method : Right part.Methods s at (method_step s at)
  unfolding method_step
  right_method =
      cond_cases (Right part.Methods s at) (eqb (token_end s at) at) (λ e. Right.nothing) λ e.
      let n = eqb-false (token_end s at) at e in
      let (u, r, t, d, k) = token_here s at (omega arith) in method_found u r t d k

  parm_found : (n r : List ℕ) → Token n → drop at s ≡ n ++ r → token_end s at ≡ at + length n → get_or s (token_end s at) 0 ≡ 61
      → (v q : List ℕ) → Value v → drop (token_end s at + 1) s ≡ v ++ q → value_end s (token_end s at + 1) ≡ token_end s at + 1 + length v
      → is_nothing (parm_item (between s at (token_end s at)) (between s (token_end s at + 1) (value_end s (token_end s at + 1)))) ≡ false
      → Right part.Parms s at (behind_parm s (value_end s (token_end s at + 1))
      (parm_item (between s at (token_end s at)) (between s (token_end s at + 1) (value_end s (token_end s at + 1)))))
  unfolding parm_at
  parm_found n r t d k e v q w b o f =
      let a : between s at (token_end s at) ≡ n = rw k (between_part s at n r d) in
      let g : between s (token_end s at + 1) (value_end s (token_end s at + 1)) ≡ v = rw o (between_part s (token_end s at + 1) v q b) in
      let m : parm_at s at ≡ to_parm n v (parm_item n v) = rw (a, g) in
      let z : is_nothing (parm_item n v) ≡ false = rw (a, g) at f in
      let i : item_of (entry_at part.Parms s at) ≡ parm_item n v = ap (λ (x : Parm). item_of (Entry.parm x)) m ∙ (parm_is n v t w z).1 in
      let h : EntryIs part.Parms (n ++ (61 ∷ v)) (entry_at part.Parms s at) =
      subst (λ (x : Parm). EntryIs part.Parms (n ++ (61 ∷ v)) (Entry.parm x)) (sym m) (EntryIs.parm (parm_is n v t w z).0) in
      let x = front s (token_end s at) (λ y. omega arith) in
      let p : get_or s (token_end s at) 0 ∷ drop (token_end s at + 1) s ≡ (61 ∷ v) ++ q = rw (e, b) in
      let j : r ≡ (61 ∷ v) ++ q = sym (behind s at n r d) ∙ ap (λ (i : ℕ). drop i s) (sym k) ∙ x ∙ p in
      let y : drop at s ≡ (n ++ (61 ∷ v)) ++ q = d ∙ ap (λ (l : List ℕ). n ++ l) j ∙ sym (append_assoc n (61 ∷ v) q) in
      let l = length-append n (61 ∷ v) in
      let c = counted s at (n ++ (61 ∷ v)) q fits y in
      let j : at + length (n ++ (61 ∷ v)) ≡ value_end s (token_end s at + 1) = omega arith in
      let u = parm_right s at (n ++ (61 ∷ v)) h (omega arith) (y ∙ ap (λ (l : List ℕ). (n ++ (61 ∷ v)) ++ l) (sym (behind s at (n ++ (61 ∷ v)) q y))) in
      subst (Right part.Parms s at) (cc) u

  right_parm : Right part.Parms s at (parm_step s at)
  unfolding parm_step parm_value
  right_parm =
      cond_cases (Right part.Parms s at) (eqb (token_end s at) at) (λ e. Right.nothing) λ e.
      cond_cases (Right part.Parms s at) (eqb (get_or s (token_end s at) 0) 61)
      (λ f. cond_cases (Right part.Parms s at) (leb (value_end s (token_end s at + 1)) (token_end s at + 1)) (λ g. Right.nothing) λ g.
      cond_cases (Right part.Parms s at)
      (is_nothing (parm_item (between s at (token_end s at)) (between s (token_end s at + 1) (value_end s (token_end s at + 1))))) (λ h. Right.nothing) λ h.
      let a = eqb-false (token_end s at) at e in
      let (n, r, t, d, k) = token_here s at (omega arith) in
      let (v, q, w, b, o) = value_found s (token_end s at + 1) (leb-false (value_end s (token_end s at + 1)) (token_end s at + 1) g) in
      parm_found n r t d k (eqb-true (get_or s (token_end s at) 0) 61 f) v q w b o h)
      (λ f. Right.nothing)

  pub right : (p : Part) → Right p s at (step_of p s at)
  right part.Methods = right_method
  right part.Parms = right_parm

  -- ---- the turn is what the grammar says

  pub stands : (p : Part) → Stands p s at (step_of p s at)
  stands p = go (step_of p s at) refl (right p)
    where
      go : (w : Step) → step_of p s at ≡ w → Right p s at w → Stands p s at w
      go w e (Right.last h) = Stands.last h
      go w e (Right.more q u b t h k d) = Stands.more u b t h k d
      go w e Right.nothing =
          Stands.none
          (λ x h. let z = ap (λ (v : Step). v.found) (sym (met_last s at fits p h).0 ∙ e) in let y : ◌≡◌ {A = ℕ} 0 1 = cc in omega arith)
          (λ u b t x q h k d.
          let z = ap (λ (v : Step). v.found) (sym (met_more s at fits p q u b t h k d).0 ∙ e) in let y : ◌≡◌ {A = ℕ} 0 1 = cc in omega arith)

  pub told : (p : Part) {w : Step} → Stands p s at w → w ≡ step_of p s at
  told p (Stands.last h) = sym (met_last s at fits p h).0
  told p (Stands.more u b t {x} {q} h k d) = sym (met_more s at fits p q u b t h k d).0
  told p (Stands.none f g) = go (step_of p s at) (right p)
    where
      go : (w : Step) → Right p s at w → no_step ≡ w
      go w Right.nothing = refl
      go w (Right.last h) = absurd (f _ h)
      go w (Right.more q u b t h k d) = absurd (g u b t _ q h k d)

-- ---- a call's answer is the turn

pub token_fits : (s : List ℕ) (at : ℕ) → at ≤ length s → token_end s at ≤ length s
token_fits s at h = omega (arith, token_within (drop at s), length-drop at s)

pub value_fits : (s : List ℕ) (at : ℕ) → at ≤ length s → at < value_end s at → value_end s at ≤ length s
value_fits s at h l = let (v, q, w, b, o) = value_found s at l in let c = counted s at v q h b in omega arith

module _ (s : List ℕ) (at : ℕ) {e : ℕ} (f : at ≤ length s) (k : e ≡ token_end s at) where
  pub method_none : {r : Step} → e ≡ at → r ≡ no_step → Stands part.Methods s at r
  unfolding method_step
  method_none {r} n h =
      let w : r ≡ method_step s at = rw (← k, eq-eqb e at n) h in rw w (stands s at f part.Methods)

  pub method_some : {r : Step} {i : Item} → (e ≡ at → ⊥) → i ≡ method_item (between s at e) → r ≡ behind_method s e i → Stands part.Methods s at r
  unfolding method_step
  method_some {r} n j h =
      let w : r ≡ method_step s at = rw (← k, ne_eqb e at n, ← j) h in rw w (stands s at f part.Methods)

  pub parm_none : {r : Step} → e ≡ at → r ≡ no_step → Stands part.Parms s at r
  unfolding parm_step
  parm_none {r} n h = let w : r ≡ parm_step s at = rw (← k, eq-eqb e at n) h in rw w (stands s at f part.Parms)

  pub parm_bare : {r : Step} {c : ℕ} → (e ≡ at → ⊥) → c ≡ get_or s e 0 → (c ≡ 61 → ⊥) → r ≡ no_step → Stands part.Parms s at r
  unfolding parm_step
  parm_bare {r} {c} n g d h =
      let w : r ≡ parm_step s at = rw (← k, ne_eqb e at n, ← g, ne_eqb c 61 d) h in rw w (stands s at f part.Parms)

  pub parm_some : {r : Step} {c : ℕ} → (e ≡ at → ⊥) → c ≡ get_or s e 0 → c ≡ 61 → r ≡ parm_value s at e → Stands part.Parms s at r
  unfolding parm_step
  parm_some {r} {c} n g d h =
      let w : r ≡ parm_step s at = rw (← k, ne_eqb e at n, ← g, eq-eqb c 61 d) h in rw w (stands s at f part.Parms)
