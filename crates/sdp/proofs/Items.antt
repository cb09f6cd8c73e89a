-- What an item is by its letters: the grammar's methods and parameters, each way. Assumes nothing.
use mathlib.Core.Path.{◌≡◌, refl, sym, ap, ◌∙◌}
use mathlib.Core.Bool.{Bool, true, false, cond, false≢true}
use mathlib.Core.List.{List, [], ◌∷◌, ◌++◌, map}
use Prim.Native.Nat.{ℕ}
use Rattle.answers.specs.Texts.{codes}
use Rattle.sdp.specs.declared.Method.{Method}
use Rattle.sdp.specs.declared.Method.TheVariants.{Rtp, Ice, Leap}
use Rattle.sdp.specs.declared.Mode.{Mode}
use Rattle.sdp.specs.declared.Mode.TheVariants.{SetOnly, SetRead, ReadOnly}
use Rattle.sdp.specs.declared.Ect.{Ect}
use Rattle.sdp.specs.declared.Ect.TheVariants.{Zero, One, Random}
use Rattle.sdp.specs.declared.steps.Item.{Item}
use Rattle.sdp.specs.declared.steps.Item.TheVariants as item
use Rattle.sdp.specs.Grammar.{lower, token_char, method_text, mode_text, ect_text, Is, Token, Value, Init, Parm, MethodIs, ParmIs}
use Rattle.sdp.specs.Steps
use Rattle.sdp.specs.Steps.{spelled, method_item, mode_item, ect_item, parm_item, is_nothing, Entry, item_of}
use Rattle.sdp.proofs.Found.{cond_cases}
use Rattle.sdp.proofs.Spelling.{spelled_is, not_spelled, spelled_not, token_of, split_equals}

-- ---- what an item is

abbrev pub to_init : List ℕ → Item → Init
to_init s (item.Known m) = Init.known m
to_init s (item.Mode m) = Init.other s
to_init s (item.Ect e) = Init.other s
to_init s item.Other = Init.other s
to_init s item.Nothing = Init.other s

abbrev pub to_parm : List ℕ → List ℕ → Item → Parm
to_parm n v (item.Known m) = Parm.other n v
to_parm n v (item.Mode m) = Parm.mode m
to_parm n v (item.Ect e) = Parm.ect e
to_parm n v item.Other = Parm.other n v
to_parm n v item.Nothing = Parm.other n v

-- a method of the grammar is a token, and is named as it is
lettered : (m : Method) → Token (method_text m)
unfolding token_char
lettered Rtp = Token.more refl (Token.more refl (Token.one refl))
lettered Ice = Token.more refl (Token.more refl (Token.one refl))
lettered Leap = Token.more refl (Token.more refl (Token.more refl (Token.one refl)))

pub method_token : {s : List ℕ} {x : Init} → MethodIs s x → Token s
method_token {s} (MethodIs.known m e) = token_of s (lettered m) e
method_token (MethodIs.other t h) = t

spelling : (text s other : List ℕ) → Is text s → spelled other s ≡ Steps.same text other
unfolding spelled
spelling text s other e = rw e

pub method_named : {s : List ℕ} {x : Init} → MethodIs s x → method_item s ≡ item_of (Entry.method x)
unfolding method_item Steps.same
method_named {s} (MethodIs.known Rtp e) = rw (spelling _ s (method_text Rtp) e)
method_named {s} (MethodIs.known Ice e) = rw (spelling _ s (method_text Rtp) e, spelling _ s (method_text Ice) e)
method_named {s} (MethodIs.known Leap e) = rw (spelling _ s (method_text Rtp) e, spelling _ s (method_text Ice) e, spelling _ s (method_text Leap) e)
method_named {s} (MethodIs.other t h) =
    rw (not_spelled (method_text Rtp) s (h Rtp), not_spelled (method_text Ice) s (h Ice), not_spelled (method_text Leap) s (h Leap))

pub method_is : (s : List ℕ) → Token s → MethodIs s (to_init s (method_item s)) × (item_of (Entry.method (to_init s (method_item s))) ≡ method_item s)
unfolding method_item
method_is s t =
    cond_cases P (spelled (method_text Rtp) s) (λ e. (MethodIs.known Rtp (spelled_is _ s e), refl)) λ a.
    cond_cases P (spelled (method_text Ice) s) (λ e. (MethodIs.known Ice (spelled_is _ s e), refl)) λ b.
    cond_cases P (spelled (method_text Leap) s) (λ e. (MethodIs.known Leap (spelled_is _ s e), refl)) λ c.
    (MethodIs.other t (none a b c), refl)
  where
    P : Item → Type 0
    P i = MethodIs s (to_init s i) × (item_of (Entry.method (to_init s i)) ≡ i)

    none : spelled (method_text Rtp) s ≡ false → spelled (method_text Ice) s ≡ false → spelled (method_text Leap) s ≡ false → (m : Method)
        → Is (method_text m) s → ⊥
    none a b c Rtp e = spelled_not _ s a e
    none a b c Ice e = spelled_not _ s b e
    none a b c Leap e = spelled_not _ s c e

-- ---- a parameter is NAME=VALUE

abbrev mode_word : Mode → List ℕ
mode_word SetOnly = codes "setonly"
mode_word SetRead = codes "setread"
mode_word ReadOnly = codes "readonly"

abbrev ect_word : Ect → List ℕ
ect_word Zero = codes "0"
ect_word One = codes "1"
ect_word Random = codes "random"

-- NAME=VALUE that is this parameter
pub record Shape (u : List ℕ) (x : Parm) : Type 0 where
  pub name : List ℕ
  pub value : List ℕ
  pub joined : u ≡ name ++ (61 ∷ value)
  pub named : Token name
  pub valued : Value value
  pub says : parm_item name value ≡ item_of (Entry.parm x)
  pub back : to_parm name value (item_of (Entry.parm x)) ≡ x

mode_says : (m : Mode) (n v : List ℕ) → Is (codes "mode") n → Is (mode_word m) v → parm_item n v ≡ item.Mode m
unfolding parm_item mode_item Steps.same
mode_says SetOnly n v a b = rw (spelling _ n (codes "mode") a, spelling _ v (codes "setonly") b)
mode_says SetRead n v a b = rw (spelling _ n (codes "mode") a, spelling _ v (codes "setonly") b, spelling _ v (codes "setread") b)
mode_says ReadOnly n v a b =
    rw (spelling _ n (codes "mode") a, spelling _ v (codes "setonly") b, spelling _ v (codes "setread") b, spelling _ v (codes "readonly") b)

ect_says : (x : Ect) (n v : List ℕ) → Is (codes "ect") n → Is (ect_word x) v → parm_item n v ≡ item.Ect x
unfolding parm_item ect_item Steps.same
ect_says Zero n v a b = rw (spelling _ n (codes "mode") a, spelling _ n (codes "ect") a, spelling _ v (codes "0") b)
ect_says One n v a b = rw (spelling _ n (codes "mode") a, spelling _ n (codes "ect") a, spelling _ v (codes "0") b, spelling _ v (codes "1") b)
ect_says Random n v a b =
    rw (spelling _ n (codes "mode") a, spelling _ n (codes "ect") a, spelling _ v (codes "0") b, spelling _ v (codes "1") b, spelling _ v (codes "random") b)

mode_split : (m : Mode) → mode_text m ≡ codes "mode" ++ (61 ∷ mode_word m)
mode_split SetOnly = refl
mode_split SetRead = refl
mode_split ReadOnly = refl

ect_split : (x : Ect) → ect_text x ≡ codes "ect" ++ (61 ∷ ect_word x)
ect_split Zero = refl
ect_split One = refl
ect_split Random = refl

-- whether each byte may stand in a token
tokens : List ℕ → Bool
tokens [] = true
tokens (c ∷ s) = cond (token_char c) (tokens s) false

to_token : (c : ℕ) (s : List ℕ) → tokens (c ∷ s) ≡ true → Token (c ∷ s)
unfolding tokens
to_token c [] e = go (token_char c) refl e
  where
    go : (b : Bool) → token_char c ≡ b → cond b true false ≡ true → Token (c ∷ [])
    go true h t = Token.one h
    go false h t = absurd (false≢true t)
to_token c (d ∷ s) e = go (token_char c) refl e (to_token d s)
  where
    go : (b : Bool) → token_char c ≡ b → cond b (tokens (d ∷ s)) false ≡ true → (tokens (d ∷ s) ≡ true → Token (d ∷ s)) → Token (c ∷ d ∷ s)
    go true h t f = Token.more h (f t)
    go false h t f = absurd (false≢true t)

mode_word_lem : (m : Mode) → Token (mode_word m)
unfolding tokens token_char
mode_word_lem SetOnly = to_token _ _ refl
mode_word_lem SetRead = to_token _ _ refl
mode_word_lem ReadOnly = to_token _ _ refl

ect_word_lem : (x : Ect) → Token (ect_word x)
unfolding tokens token_char
ect_word_lem Zero = to_token _ _ refl
ect_word_lem One = to_token _ _ refl
ect_word_lem Random = to_token _ _ refl

mode_name : Token (codes "mode")
unfolding tokens token_char
mode_name = to_token _ _ refl

ect_name : Token (codes "ect")
unfolding tokens token_char
ect_name = to_token _ _ refl

pub shape : {u : List ℕ} {x : Parm} → ParmIs u x → Shape u x
unfolding parm_item
shape {u} (ParmIs.mode m e) =
    let (n, v, j, a, b) = split_equals (codes "mode") (mode_word m) u (e ∙ mode_split m) in
    record {
      name = n;
      value = v;
      joined = j;
      named = token_of n mode_name a;
      valued = Value.token (token_of v (mode_word_lem m) b);
      says = mode_says m n v a b;
      back = refl;
    }
shape {u} (ParmIs.ect x e) =
    let (n, v, j, a, b) = split_equals (codes "ect") (ect_word x) u (e ∙ ect_split x) in
    record {
      name = n;
      value = v;
      joined = j;
      named = token_of n ect_name a;
      valued = Value.token (token_of v (ect_word_lem x) b);
      says = ect_says x n v a b;
      back = refl;
    }
shape (ParmIs.other {name} {value} t h k v j) =
    record {
      name = name;
      value = value;
      joined = j;
      named = t;
      valued = v;
      says = rw (not_spelled (codes "mode") name h, not_spelled (codes "ect") name k);
      back = refl;
    }

joined_is : (a b : List ℕ) (n v : List ℕ) → Is a n → Is b v → Is (a ++ (61 ∷ b)) (n ++ (61 ∷ v))
unfolding lower
joined_is a b n v p q = rw (← p, ← q) (go n)
  where
    go : (n : List ℕ) → map lower (n ++ (61 ∷ v)) ≡ map lower n ++ (61 ∷ map lower v)
    go [] = refl
    go (c ∷ n) = ap (λ (l : List ℕ). lower c ∷ l) (go n)

-- what NAME=VALUE is, where it is a parameter
abbrev pub ParmFits : List ℕ → List ℕ → Item → Type 0
ParmFits n v i = is_nothing i ≡ false → ParmIs (n ++ (61 ∷ v)) (to_parm n v i) × (item_of (Entry.parm (to_parm n v i)) ≡ i)

module _ (n v : List ℕ) where
  mode_fits : Is (codes "mode") n → ParmFits n v (mode_item v)
  unfolding mode_item
  mode_fits a =
      cond_cases (ParmFits n v) (spelled (codes "setonly") v) (λ e h. (ParmIs.mode SetOnly (joined_is _ _ n v a (spelled_is _ v e)), refl)) λ _.
      cond_cases (ParmFits n v) (spelled (codes "setread") v) (λ e h. (ParmIs.mode SetRead (joined_is _ _ n v a (spelled_is _ v e)), refl)) λ _.
      cond_cases (ParmFits n v) (spelled (codes "readonly") v) (λ e h. (ParmIs.mode ReadOnly (joined_is _ _ n v a (spelled_is _ v e)), refl)) λ _ h.
      absurd (false≢true (sym h))

  ect_fits : Is (codes "ect") n → ParmFits n v (ect_item v)
  unfolding ect_item
  ect_fits a =
      cond_cases (ParmFits n v) (spelled (codes "0") v) (λ e h. (ParmIs.ect Zero (joined_is _ _ n v a (spelled_is _ v e)), refl)) λ _.
      cond_cases (ParmFits n v) (spelled (codes "1") v) (λ e h. (ParmIs.ect One (joined_is _ _ n v a (spelled_is _ v e)), refl)) λ _.
      cond_cases (ParmFits n v) (spelled (codes "random") v) (λ e h. (ParmIs.ect Random (joined_is _ _ n v a (spelled_is _ v e)), refl)) λ _ h.
      absurd (false≢true (sym h))

  pub parm_is : Token n → Value v → ParmFits n v (parm_item n v)
  unfolding parm_item
  parm_is t w =
      cond_cases (ParmFits n v) (spelled (codes "mode") n) (λ e. mode_fits (spelled_is _ n e)) λ a.
      cond_cases (ParmFits n v) (spelled (codes "ect") n) (λ e. ect_fits (spelled_is _ n e)) λ b h.
      (ParmIs.other t (spelled_not _ n a) (spelled_not _ n b) w refl, refl)
