-- Lines of bytes, each of at most 255 bytes below 128.
use Rattle.std.specs.Prelude.{◌≡◌, ◌≢◌, ℕ, ◌<◌, ◌≤◌, List, [], ◌∷◌, ◌++◌, Option, Some, None, length, ⊤, ◌⊎◌}
use Rattle.gz_io.specs.declared.reader.Next.{Next}
use Rattle.gz_io.specs.declared.reader.Next.TheVariants as next

-- bytes that a line may have: below 128, and no line feed
abbrev pub IsPlain : List ℕ → Type 0
IsPlain [] = ⊤
IsPlain (b ∷ bs) = (b < 128) × (b ≢ 10) × IsPlain bs

-- of the bytes xs the line comes first and ys are left: it ends with a line feed, or with the input
abbrev pub EndsLine : List ℕ → List ℕ → List ℕ → Type 0
EndsLine xs ys line = (xs ≡ line ++ 10 ∷ ys) ⊎ ((xs ≡ line) × (0 < length line) × (ys ≡ []))

-- the first line has a 256th byte that is no line feed
pub record IsTooLong (xs : List ℕ) : Type 0 where
  pub line : List ℕ
  pub byte : ℕ
  pub rest : List ℕ
  pub bytes : xs ≡ line ++ byte ∷ rest
  pub plain : IsPlain line
  pub size : length line ≡ 255
  pub goes_on : byte ≢ 10

-- among the first 255 bytes of the first line is one of 128 or more
pub record IsNotAscii (xs : List ℕ) : Type 0 where
  pub line : List ℕ
  pub byte : ℕ
  pub rest : List ℕ
  pub bytes : xs ≡ line ++ byte ∷ rest
  pub plain : IsPlain line
  pub size : length line < 255
  pub high : 128 ≤ byte

-- of the bytes xs this is answered, ys are left, and the line was given
abbrev pub Gives : List ℕ → List ℕ → Next → List ℕ → Type 0
Gives xs ys (next.Line n) line = (n ≡ length line) × (n ≤ 255) × IsPlain line × EndsLine xs ys line
Gives xs ys next.End line = (xs ≡ []) × (ys ≡ [])
Gives xs ys next.TooLong line = (ys ≡ xs) × IsTooLong xs
Gives xs ys next.NotAscii line = (ys ≡ xs) × IsNotAscii xs
Gives xs ys next.ReadFault line = ys ≡ xs

-- what was given, of a source that tells its bytes or does not
abbrev pub GivesKnown : Option (List ℕ) → Option (List ℕ) → Next → List ℕ → Type 0
GivesKnown None new result line = ⊤
GivesKnown (Some xs) None result line = ⊥
GivesKnown (Some xs) (Some ys) result line = Gives xs ys result line

-- an answer that the bytes allow is the one that was given, but where the source failed
abbrev pub IsOnlyAnswer : Option (List ℕ) → Next → Type 0
IsOnlyAnswer None result = ⊤
IsOnlyAnswer (Some xs) result =
    (r : Next) (ys line : List ℕ) → Gives xs ys r line → r ≢ next.ReadFault → (result ≡ next.ReadFault) ⊎ (result ≡ r)
