-- The zones of `gc` and `collect`: some, in 64 bits.
use Rattle.std.proofs.Common.{◌≡◌, ◌⊎◌, ◌∙◌, ℕ, ◌<◌, ◌^◌, inl, inr, List, subst, sym}
use Rattle.gz_names.specs.declared.zone_sets.ZoneSet.{ZoneSet}
use Rattle.gz_names.specs.declared.commands.Cmd.{Cmd}
use Rattle.gz_names.specs.declared.commands.Cmd.TheVariants.{Collect, Gc}
use Rattle.trace_lang.specs.Grammar.{Spells, SpellsRest}
use Rattle.trace_lang.specs.declared.words.Word.{Word}
use Rattle.trace_lang.specs.declared.words.Word.TheVariants as word

abbrev Size : ZoneSet → Type 0
Size zones = (0 < zones.bits) × (zones.bits < 2 ^ 64)

-- a command of these zones is spelled as one of the two
abbrev IsOf : Cmd → ZoneSet → Type 0
IsOf c zones = (c ≡ Gc zones) ⊎ (c ≡ Collect zones)

none_of : (c d : Cmd) (zones : ZoneSet) → c ≡ d → ((d ≡ Gc zones) → ⊥) → ((d ≡ Collect zones) → ⊥) → IsOf c zones → ⊥
none_of c d zones e n m (inl i) = n (sym e ∙ i)
none_of c d zones e n m (inr i) = m (sym e ∙ i)

sized : (w : Word) (rest : List ℕ) (c : Cmd) (zones : ZoneSet) → SpellsRest w rest c → IsOf c zones → Size zones
sized word.Zone rest c zones h o = absurd (none_of c _ zones h.0 (λ i. cc i) (λ i. cc i) o)
sized word.Comp rest c zones h o = absurd (none_of c _ zones h.1 (λ i. cc i) (λ i. cc i) o)
sized word.New rest c zones h o = absurd (none_of c _ zones h.3 (λ i. cc i) (λ i. cc i) o)
sized word.Map rest c zones h o = absurd (none_of c _ zones h.2 (λ i. cc i) (λ i. cc i) o)
sized word.Get rest c zones h o = absurd (none_of c _ zones h.3 (λ i. cc i) (λ i. cc i) o)
sized word.Set rest c zones h o = absurd (none_of c _ zones h.3 (λ i. cc i) (λ i. cc i) o)
sized word.Wrap rest c zones h o = absurd (none_of c _ zones h.3 (λ i. cc i) (λ i. cc i) o)
sized word.Unwrap rest c zones h o = absurd (none_of c _ zones h.2 (λ i. cc i) (λ i. cc i) o)
sized word.Copy rest c zones h o = absurd (none_of c _ zones h.2 (λ i. cc i) (λ i. cc i) o)
sized word.Drop rest c zones h o = absurd (none_of c _ zones h.1 (λ i. cc i) (λ i. cc i) o)
sized word.Hold rest c zones h o = absurd (none_of c _ zones h.2 (λ i. cc i) (λ i. cc i) o)
sized word.Release rest c zones h o = absurd (none_of c _ zones h.1 (λ i. cc i) (λ i. cc i) o)
sized word.Expose rest c zones h o = absurd (none_of c _ zones h.2 (λ i. cc i) (λ i. cc i) o)
sized word.Put rest c zones h o = absurd (none_of c _ zones h.3 (λ i. cc i) (λ i. cc i) o)
sized word.Del rest c zones h o = absurd (none_of c _ zones h.2 (λ i. cc i) (λ i. cc i) o)
sized word.Find rest c zones h o = absurd (none_of c _ zones h.3 (λ i. cc i) (λ i. cc i) o)
sized word.Slice rest c zones h o = absurd (none_of c _ zones h.1 (λ i. cc i) (λ i. cc i) o)
sized word.Finish rest c zones h o = absurd (none_of c _ zones h.0 (λ i. cc i) (λ i. cc i) o)
sized word.Colours rest c zones h o = absurd (none_of c _ zones h.0 (λ i. cc i) (λ i. cc i) o)
sized word.Dump rest c zones h o = absurd (none_of c _ zones h.0 (λ i. cc i) (λ i. cc i) o)
sized word.Reset rest c zones h o = absurd (none_of c _ zones h.0 (λ i. cc i) (λ i. cc i) o)
sized word.Weaken rest c zones h o = absurd (none_of c _ zones h.2 (λ i. cc i) (λ i. cc i) o)
sized word.Deref rest c zones h o = absurd (none_of c _ zones h.2 (λ i. cc i) (λ i. cc i) o)
sized word.Watch rest c zones h o = absurd (none_of c _ zones h.1 (λ i. cc i) (λ i. cc i) o)
sized word.Unwatch rest c zones h o = absurd (none_of c _ zones h.1 (λ i. cc i) (λ i. cc i) o)
sized word.Compact rest c zones h o = absurd (none_of c _ zones h.1 (λ i. cc i) (λ i. cc i) o)
sized word.Gc rest c zones h (inl i) = let same : h.0 ≡ zones = cc (h.1, i) in subst Size same (h.2.0, h.2.1)
sized word.Gc rest c zones h (inr i) = absurd (cc (h.1, i))
sized word.Collect rest c zones h (inl i) = absurd (cc (h.1, i))
sized word.Collect rest c zones h (inr i) = let same : h.0 ≡ zones = cc (h.1, i) in subst Size same (h.2.0, h.2.1)

pub spelled_zones : (text : List ℕ) (c : Cmd) (zones : ZoneSet) → Spells text c → (c ≡ Gc zones) ⊎ (c ≡ Collect zones)
    → (0 < zones.bits) × (zones.bits < 2 ^ 64)
spelled_zones text c zones spells o = sized spells.0 spells.1 c zones spells.3 o
