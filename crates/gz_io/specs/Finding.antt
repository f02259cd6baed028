-- What bytes that are held show of the next line, before the rest of the input is known.
use Rattle.std.specs.Prelude.{◌≡◌, ◌≢◌, ℕ, ◌<◌, ◌≤◌, Bool, List, [], ◌∷◌, ◌++◌, ◌||◌, ◌==◌, not, nat_le, length, take}
use Rattle.std.specs.Prelude.{slice_index, ◌⊎◌}
use Rattle.gz_io.specs.Kept.{Kept}
use Rattle.gz_io.specs.Lines.{IsPlain, IsTooLong, IsNotAscii, Gives}
use Rattle.gz_io.specs.declared.reader.Next.{Next}
use Rattle.gz_io.specs.declared.reader.Next.TheVariants as next
use Rattle.gz_io.specs.declared.find.Found.{Found}
use Rattle.gz_io.specs.declared.find.Found.TheVariants as found

-- the test of a byte that no line may have, and of one that a line may have
abbrev pub is_stop : ℕ → Bool
is_stop b = b == 10 || nat_le 128 b

abbrev pub is_plain : ℕ → Bool
is_plain b = not (is_stop b)

-- a byte that no line may have
abbrev pub Stops : ℕ → Type 0
Stops b = (b ≡ 10) ⊎ (128 ≤ b)

-- the bytes show this by themselves
abbrev pub Finds : List ℕ → Found → Type 0
Finds xs (found.Line n) = (n ≤ 255) × (n < length xs) × IsPlain (take n xs) × (slice_index xs n ≡ 10)
Finds xs found.TooLong = (255 < length xs) × IsPlain (take 255 xs) × (slice_index xs 255 ≢ 10)
Finds xs found.NotAscii = (n : ℕ) × (n < 255) × (n < length xs) × IsPlain (take n xs) × (128 ≤ slice_index xs n)
Finds xs found.More = (length xs ≤ 255) × IsPlain xs

-- what a reader answers that holds bytes which show this; where they show nothing they are all that come
abbrev pub GivesFound : Found → Kept → Kept → Next → Type 0
GivesFound (found.Line n) old new result =
    (result ≡ next.Line n) × (n ≡ length new.line) × (n ≤ 255) × IsPlain new.line
    × (old.held ≡ new.line ++ 10 ∷ new.held)
GivesFound found.TooLong old new result = (result ≡ next.TooLong) × (new ≡ old) × IsTooLong old.held
GivesFound found.NotAscii old new result = (result ≡ next.NotAscii) × (new ≡ old) × IsNotAscii old.held
GivesFound found.More old new result =
    Gives old.held new.held result new.line × (new.held ≡ []) × (result ≢ next.TooLong) × (result ≢ next.NotAscii)
    × (result ≢ next.ReadFault)
