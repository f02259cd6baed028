-- The lines of a trace, and the commands that they stand for.
use Rattle.std.specs.Prelude.{◌≡◌, ℕ, ◌<◌, ◌^◌, List, [], ◌++◌, Option}
use Rattle.gz_names.specs.Zones.{zones_in}
use Rattle.gz_names.specs.declared.numbers.CompNo.{CompNo}
use Rattle.gz_names.specs.declared.zone_sets.ZoneSet.{ZoneSet}
use Rattle.gz_names.specs.declared.commands.Cmd.{Cmd}
use Rattle.gz_names.specs.declared.commands.Cmd.TheVariants.{Graph, Weak, Gc, Slice, Finish, Collect, Colours, Dump}
use Rattle.gz_names.specs.declared.commands.Cmd.TheVariants.{Compact, Reset}
use Rattle.gz_names.specs.declared.commands.GraphCmd.TheVariants as cmd
use Rattle.gz_names.specs.declared.commands.WeakCmd.TheVariants as weak
use Rattle.trace_lang.specs.declared.words.Word.{Word}
use Rattle.trace_lang.specs.declared.words.Word.TheVariants as word
use Rattle.trace_lang.specs.Words.{word_text, number_word, reg_word, gray_word, weak_word, target_word, FitsTarget}
use Rattle.trace_lang.specs.Words.{number_words}

-- a set of zones that is not empty, by its zones in order
abbrev pub SpellsZones : ZoneSet → List ℕ → Type 0
SpellsZones zones rest = (0 < zones.bits) × (zones.bits < 2 ^ 64) × (rest ≡ number_words (zones_in zones))

-- the table of commands: after this first word this rest of a line stands for the command. Registers
-- are below 16, gray slots, weak slots and zones below 64, compartments below 256; an object has at most 8 fields,
-- from 0 to 7; a slice has less than 2^32 units.
abbrev pub SpellsRest : Word → List ℕ → Cmd → Type 0
SpellsRest word.Zone rest c = (c ≡ Graph cmd.Zone) × (rest ≡ [])
SpellsRest word.Comp rest c = (z : ℕ) × (c ≡ Graph (cmd.Comp z)) × (z < 64) × (rest ≡ number_word z)
SpellsRest word.New rest c =
    (r : ℕ) × (d : CompNo) × (n : ℕ) × (c ≡ Graph (cmd.New r d n)) × (r < 16) × (d.0 < 256) × (n < 9)
    × (rest ≡ reg_word r ++ number_word d.0 ++ number_word n)
SpellsRest word.Map rest c =
    (r : ℕ) × (d : CompNo) × (c ≡ Graph (cmd.Map r d)) × (r < 16) × (d.0 < 256) × (rest ≡ reg_word r ++ number_word d.0)
SpellsRest word.Get rest c =
    (r s f : ℕ) × (c ≡ Graph (cmd.Get r s f)) × (r < 16) × (s < 16) × (f < 8)
    × (rest ≡ reg_word r ++ reg_word s ++ number_word f)
SpellsRest word.Set rest c =
    (s f : ℕ) × (t : Option ℕ) × (c ≡ Graph (cmd.Set s f t)) × (s < 16) × (f < 8) × FitsTarget t
    × (rest ≡ reg_word s ++ number_word f ++ target_word t)
SpellsRest word.Wrap rest c =
    (r s : ℕ) × (d : CompNo) × (c ≡ Graph (cmd.Wrap r s d)) × (r < 16) × (s < 16) × (d.0 < 256)
    × (rest ≡ reg_word r ++ reg_word s ++ number_word d.0)
SpellsRest word.Unwrap rest c =
    (r s : ℕ) × (c ≡ Graph (cmd.Unwrap r s)) × (r < 16) × (s < 16) × (rest ≡ reg_word r ++ reg_word s)
SpellsRest word.Copy rest c =
    (r s : ℕ) × (c ≡ Graph (cmd.Copy r s)) × (r < 16) × (s < 16) × (rest ≡ reg_word r ++ reg_word s)
SpellsRest word.Drop rest c = (r : ℕ) × (c ≡ Graph (cmd.Drop r)) × (r < 16) × (rest ≡ reg_word r)
SpellsRest word.Hold rest c =
    (g r : ℕ) × (c ≡ Graph (cmd.Hold g r)) × (g < 64) × (r < 16) × (rest ≡ gray_word g ++ reg_word r)
SpellsRest word.Release rest c = (g : ℕ) × (c ≡ Graph (cmd.Release g)) × (g < 64) × (rest ≡ gray_word g)
SpellsRest word.Expose rest c =
    (r g : ℕ) × (c ≡ Graph (cmd.Expose r g)) × (r < 16) × (g < 64) × (rest ≡ reg_word r ++ gray_word g)
SpellsRest word.Put rest c =
    (m k v : ℕ) × (c ≡ Graph (cmd.Put m k v)) × (m < 16) × (k < 16) × (v < 16)
    × (rest ≡ reg_word m ++ reg_word k ++ reg_word v)
SpellsRest word.Del rest c =
    (m k : ℕ) × (c ≡ Graph (cmd.Del m k)) × (m < 16) × (k < 16) × (rest ≡ reg_word m ++ reg_word k)
SpellsRest word.Find rest c =
    (r m k : ℕ) × (c ≡ Graph (cmd.Find r m k)) × (r < 16) × (m < 16) × (k < 16)
    × (rest ≡ reg_word r ++ reg_word m ++ reg_word k)
SpellsRest word.Gc rest c = (zones : ZoneSet) × (c ≡ Gc zones) × SpellsZones zones rest
SpellsRest word.Slice rest c = (n : ℕ) × (c ≡ Slice n) × (n < 2 ^ 32) × (rest ≡ number_word n)
SpellsRest word.Finish rest c = (c ≡ Finish) × (rest ≡ [])
SpellsRest word.Collect rest c = (zones : ZoneSet) × (c ≡ Collect zones) × SpellsZones zones rest
SpellsRest word.Colours rest c = (c ≡ Colours) × (rest ≡ [])
SpellsRest word.Dump rest c = (c ≡ Dump) × (rest ≡ [])
SpellsRest word.Reset rest c = (c ≡ Reset) × (rest ≡ [])
SpellsRest word.Weaken rest c =
    (q r : ℕ) × (c ≡ Weak (weak.Weaken q r)) × (q < 64) × (r < 16) × (rest ≡ weak_word q ++ reg_word r)
SpellsRest word.Deref rest c =
    (r q : ℕ) × (c ≡ Weak (weak.Deref r q)) × (r < 16) × (q < 64) × (rest ≡ reg_word r ++ weak_word q)
SpellsRest word.Watch rest c = (r : ℕ) × (c ≡ Weak (weak.Watch r)) × (r < 16) × (rest ≡ reg_word r)
SpellsRest word.Unwatch rest c = (r : ℕ) × (c ≡ Weak (weak.Unwatch r)) × (r < 16) × (rest ≡ reg_word r)
SpellsRest word.Compact rest c = (z : ℕ) × (c ≡ Compact z) × (z < 64) × (rest ≡ number_word z)

-- the line stands for the command
abbrev pub Spells : List ℕ → Cmd → Type 0
Spells line c = (w : Word) × (rest : List ℕ) × (line ≡ word_text w ++ rest) × SpellsRest w rest c
