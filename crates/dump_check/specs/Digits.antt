-- Digits that a text begins with.
use Rattle.std.specs.Prelude.{◌≡◌, ℕ, ◌+◌, ◌-◌, ◌*◌, false, List, [], ◌∷◌, if◌then◌else◌, ⊤}
use Rattle.std.specs.Char.{is_ascii_digit}

-- the digits that a text begins with
abbrev pub front_digits : List ℕ → List ℕ
front_digits [] = []
front_digits (b ∷ bs) = if is_ascii_digit b then b ∷ front_digits bs else []

-- what follows them
abbrev pub after_digits : List ℕ → List ℕ
after_digits [] = []
after_digits (b ∷ bs) = if is_ascii_digit b then after_digits bs else b ∷ bs

-- the number that digits go on with
abbrev pub read_on : ℕ → List ℕ → ℕ
read_on n [] = n
read_on n (c ∷ cs) = read_on (10 * n + (c - 48)) cs

-- a text that does not begin with a digit
abbrev pub IsStop : List ℕ → Type 0
IsStop [] = ⊤
IsStop (b ∷ bs) = is_ascii_digit b ≡ false

-- a text that ends, or goes on with a space
abbrev pub IsWordEnd : List ℕ → Type 0
IsWordEnd [] = ⊤
IsWordEnd (b ∷ bs) = b ≡ 32
