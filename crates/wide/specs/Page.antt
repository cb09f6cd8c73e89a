-- The worked examples of docs/BREAKER.md, carried through to the last digit, as one table: what is given, and what must come of it.
use Rattle.std.specs.Prelude.{◌≡◌, Bool, true, false, List, [], ◌∷◌, map, ℕ, ◌*◌, ◌/◌, ◌%◌, ◌^◌, ltb}
use Rattle.wide.specs.declared.Wide.{Wide}
use Rattle.wide.specs.declared.HalfProducts.{HalfProducts}
use Rattle.wide.specs.Products.{value, wide_of, half_products_of, column0, column1, carry, column2}

-- the rule's numbers, by their names in the breaker
pub record Given : Type 0 where
  pub rate : ℕ
  pub rtt : ℕ
  pub p : ℕ
  pub size : ℕ
  pub w : ℕ

-- one product: the factors, their halves, the half-products, the columns with the carry, the two words
pub record Product : Type 0 where
  pub a : ℕ
  pub b : ℕ
  pub ah : ℕ
  pub al : ℕ
  pub bh : ℕ
  pub bl : ℕ
  pub half_products : HalfProducts
  pub column0 : ℕ
  pub column1 : ℕ
  pub carry : ℕ
  pub column2 : ℕ
  pub words : Wide

pub record Comparison : Type 0 where
  pub left : Product
  pub right : Product
  pub above : Bool

abbrev pub product : ℕ → ℕ → Product
product a b =
    let h = half_products_of a b in
    record {
      a = a;
      b = b;
      ah = a / 2 ^ 32;
      al = a % 2 ^ 32;
      bh = b / 2 ^ 32;
      bl = b % 2 ^ 32;
      half_products = h;
      column0 = column0 h;
      column1 = column1 h;
      carry = carry h;
      column2 = column2 h;
      words = wide_of (a * b);
    }

-- the factors are those of the breaker's `exceeds`
abbrev pub compared : Given → Comparison
compared g =
    let left = product (g.rate * g.rtt * g.rtt) (g.rate * g.p) in
    let right = product (38400000000 * g.w) (g.size * g.size) in
    record { left = left; right = right; above = ltb (value right.words) (value left.words) }

pub record Example : Type 0 where
  pub given : Given
  pub outcome : Comparison

-- ---- the table

-- C9 and C10, which have one right side
abbrev pub left_c9 : Product
left_c9 =
    record {
      a = 0x00000000_92001940;
      b = 0x00000024_80065000;
      ah = 0x00000000;
      al = 0x92001940;
      bh = 0x00000024;
      bl = 0x80065000;
      half_products = record { ll = 0x4903A640_9F640000; hl = 0x00000000_00000000; lh = 0x00000014_88038D00; hh = 0x00000000_00000000 };
      column0 = 0x9F640000;
      column1 = 0x00000000_D1073340;
      carry = 0x00000000;
      column2 = 0x00000000_00000014;
      words = record { high = 0x00000000_00000014; low = 0xD1073340_9F640000 };
    }

abbrev pub left_c10 : Product
left_c10 =
    record {
      a = 0x00000000_92004050;
      b = 0x00000024_80101400;
      ah = 0x00000000;
      al = 0x92004050;
      bh = 0x00000024;
      bl = 0x80101400;
      half_products = record { ll = 0x49094B94_0A064000; hl = 0x00000000_00000000; lh = 0x00000014_88090B40; hh = 0x00000000_00000000 };
      column0 = 0x0A064000;
      column1 = 0x00000000_D11256D4;
      carry = 0x00000000;
      column2 = 0x00000000_00000014;
      words = record { high = 0x00000000_00000014; low = 0xD11256D4_0A064000 };
    }

abbrev pub right_c10 : Product
right_c10 =
    record {
      a = 0x00015D3E_F7980000;
      b = 0x00000000_000F4240;
      ah = 0x00015D3E;
      al = 0xF7980000;
      bh = 0x00000000;
      bl = 0x000F4240;
      half_products = record { ll = 0x000EC1FB_16000000; hl = 0x00000014_D1034B80; lh = 0x00000000_00000000; hh = 0x00000000_00000000 };
      column0 = 0x16000000;
      column1 = 0x00000000_D1120D7B;
      carry = 0x00000000;
      column2 = 0x00000000_00000014;
      words = record { high = 0x00000000_00000014; low = 0xD1120D7B_16000000 };
    }

-- at the limits: k = 32, each length 10,000,000 ms, each fraction lost 255
abbrev pub left_limits : Product
left_limits =
    record {
      a = 0x063EB89D_A4ED0000;
      b = 0x8D8DADF5_44FC0000;
      ah = 0x063EB89D;
      al = 0xA4ED0000;
      bh = 0x8D8DADF5;
      bl = 0x44FC0000;
      half_products = record { ll = 0x2C714D4C_00000000; hl = 0x01AECEC7_6E8C0000; lh = 0x5B31CF9A_FFD10000; hh = 0x03740078_8441C741 };
      column0 = 0x00000000;
      column1 = 0x00000001_9ACE4D4C;
      carry = 0x00000001;
      column2 = 0x03740078_E12265A3;
      words = record { high = 0x03740078_E12265A3; low = 0x9ACE4D4C_00000000 };
    }

abbrev pub right_limits : Product
right_limits =
    record {
      a = 0xAA87BEE5_38000000;
      b = 0x00000000_FFFE0001;
      ah = 0xAA87BEE5;
      al = 0x38000000;
      bh = 0x00000000;
      bl = 0xFFFE0001;
      half_products = record { ll = 0x37FF9000_38000000; hl = 0xAA8669D6_2CBDBEE5; lh = 0x00000000_00000000; hh = 0x00000000_00000000 };
      column0 = 0x38000000;
      column1 = 0x00000000_64BD4EE5;
      carry = 0x00000000;
      column2 = 0x00000000_AA8669D6;
      words = record { high = 0x00000000_AA8669D6; low = 0x64BD4EE5_38000000 };
    }

abbrev pub examples : List Example
examples =
    record {
      given = record { rate = 244_948; rtt = 100; p = 640_000; size = 1_000; w = 10_000 };
      outcome = record { left = left_c9; right = right_c10; above = false };
    }
    ∷ record {
      given = record { rate = 244_949; rtt = 100; p = 640_000; size = 1_000; w = 10_000 };
      outcome = record { left = left_c10; right = right_c10; above = true };
    }
    ∷ record {
      given = record { rate = 125_000_000; rtt = 60_000; p = 81_600_000_000; size = 65_535; w = 320_000_000 };
      outcome = record { left = left_limits; right = right_limits; above = true };
    }
    ∷ []

-- every row comes out as the table says
abbrev pub PageHolds : Type 0
PageHolds = map (λ e. compared e.given) examples ≡ map (λ e. e.outcome) examples
