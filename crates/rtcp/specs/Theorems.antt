-- What holds between the profiles (document 02, L4).
use Rattle.std.specs.Prelude.{◌≡◌, true, List, ◌⊎◌, ℕ, Ok, Err}
use Rattle.answers.specs.declared.Refusal.{Refusal}
use Rattle.answers.specs.declared.Refusal.TheVariants.{FirstPacket}
use Rattle.rtcp.specs.declared.Compound.{Compound}
use Rattle.rtcp.specs.declared.Profile.{Profile}
use Rattle.rtcp.specs.Compound.{reading}

-- the old profile gives the answer of the new one, or 3, which the new one never gives
pub record Profiles (b : List ℕ) (media : ℕ) : Type 0 where
  pub alike : (reading b media Profile.Compound ≡ reading b media Profile.ReducedSize) ⊎ (reading b media Profile.Compound ≡ Err FirstPacket)
  pub never : reading b media Profile.ReducedSize ≡ Err FirstPacket → ⊥
  -- so what the old one accepts has the same answer under the new, with an SR or an RR in it
  pub accepted : (c : Compound) → reading b media Profile.Compound ≡ Ok c
      → (reading b media Profile.ReducedSize ≡ Ok c) × (c.reporting ≡ true)
  -- and what it refuses, but with 3, is refused by the new with the same number
  pub refused : (r : Refusal) → (r ≡ FirstPacket → ⊥) → reading b media Profile.Compound ≡ Err r
      → reading b media Profile.ReducedSize ≡ Err r

abbrev pub ProfilesAgree : Type 0
ProfilesAgree = (b : List ℕ) (media : ℕ) → Profiles b media
