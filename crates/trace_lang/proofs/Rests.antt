-- What follows the first word of a line begins with a space, where there is anything.
use Rattle.std.proofs.Common.{◌≡◌, ℕ, List, refl, sym, subst}
use Rattle.gz_names.specs.declared.commands.Cmd.{Cmd}
use Rattle.trace_lang.specs.declared.words.Word.{Word}
use Rattle.trace_lang.specs.declared.words.Word.TheVariants as word
use Rattle.trace_lang.specs.Words.{IsBreak}
use Rattle.trace_lang.specs.Grammar.{SpellsRest}
use Rattle.gz_names.specs.Zones.{zones_in}
use Rattle.trace_lang.proofs.ZoneLists.{number_words-break}

break_at : (rest text : List ℕ) → rest ≡ text → IsBreak text → IsBreak rest
break_at rest text e h = subst IsBreak (sym e) h

pub rest_break : (w : Word) (rest : List ℕ) (c : Cmd) → SpellsRest w rest c → IsBreak rest
rest_break word.Zone rest c s = break_at rest _ s.1 tt
rest_break word.Comp rest c s = break_at rest _ s.3 refl
rest_break word.New rest c s = break_at rest _ s.7 refl
rest_break word.Map rest c s = break_at rest _ s.5 refl
rest_break word.Get rest c s = break_at rest _ s.7 refl
rest_break word.Set rest c s = break_at rest _ s.7 refl
rest_break word.Wrap rest c s = break_at rest _ s.7 refl
rest_break word.Unwrap rest c s = break_at rest _ s.5 refl
rest_break word.Copy rest c s = break_at rest _ s.5 refl
rest_break word.Drop rest c s = break_at rest _ s.3 refl
rest_break word.Hold rest c s = break_at rest _ s.5 refl
rest_break word.Release rest c s = break_at rest _ s.3 refl
rest_break word.Expose rest c s = break_at rest _ s.5 refl
rest_break word.Put rest c s = break_at rest _ s.7 refl
rest_break word.Del rest c s = break_at rest _ s.5 refl
rest_break word.Find rest c s = break_at rest _ s.7 refl
rest_break word.Gc rest c s = break_at rest _ s.2.2 (number_words-break (zones_in s.0))
rest_break word.Slice rest c s = break_at rest _ s.3 refl
rest_break word.Finish rest c s = break_at rest _ s.1 tt
rest_break word.Collect rest c s = break_at rest _ s.2.2 (number_words-break (zones_in s.0))
rest_break word.Colours rest c s = break_at rest _ s.1 tt
rest_break word.Dump rest c s = break_at rest _ s.1 tt
rest_break word.Reset rest c s = break_at rest _ s.1 tt
rest_break word.Weaken rest c s = break_at rest _ s.5 refl
rest_break word.Deref rest c s = break_at rest _ s.5 refl
rest_break word.Watch rest c s = break_at rest _ s.3 refl
rest_break word.Unwatch rest c s = break_at rest _ s.3 refl
rest_break word.Compact rest c s = break_at rest _ s.3 refl

-- a word and the rest of a line that are these ones
pub rest_is : (v w : Word) (rest r : List ℕ) (c : Cmd) → (v ≡ w) × (rest ≡ r) → SpellsRest w r c → SpellsRest v rest c
rest_is v w rest r c e s = subst (λ x. SpellsRest x rest c) (sym e.0) (subst (λ x. SpellsRest w x c) (sym e.1) s)
