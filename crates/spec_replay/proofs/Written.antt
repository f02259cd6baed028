-- What was written, and what it answers.
use Rattle.std.proofs.Common.{◌≡◌, ℕ, ◌+◌, ◌<◌, List, [], ◌∷◌, Option, length, take, get_or, ap, sym, ◌∙◌, subst, refl}
use Rattle.std.specs.Io.KnownBytes.{Appends}
use Rattle.std.proofs.KnownBytes.{Appends-nil, Appends-trans}
use Rattle.gz_names.specs.declared.names.Name.{Name}
use Rattle.gz_names.specs.declared.commands.Cmd.{Cmd}
use Rattle.gz_names.specs.declared.commands.Cmd.TheVariants as command
use Rattle.gz_names.specs.declared.commands.GraphCmd.{GraphCmd}
use Rattle.colour_defs.specs.Graph.{GraphState}
use Rattle.colour_defs.specs.Step.{step_of}
use Rattle.trace_lang.specs.Grammar.{Spells}
use Rattle.trace_lang.specs.Texts.{name_text, name_words, reply_text, line_of}
use Rattle.trace_lang.proofs.Owing.{name_words-push, taken_next}
use Rattle.spec_replay.specs.Answers.{AnswersLine, WritesAnswer, WritesReached}

-- a name more, behind its space
pub name_written : (o a b c : Option (List ℕ)) (xs : List Name) (i : ℕ) (d : Name) → i < length xs
    → Appends o a (name_words (take i xs)) → Appends a b (32 ∷ []) → Appends b c (name_text (get_or xs i d))
    → Appends o c (name_words (take (i + 1) xs))
name_written o a b c xs i d lt h k l =
    subst (λ t. Appends o c t)
    (sym (ap name_words (taken_next xs i d lt) ∙ name_words-push (take i xs) (get_or xs i d)))
    (Appends-trans o a c (name_words (take i xs)) (32 ∷ name_text (get_or xs i d)) h
    (Appends-trans a b c (32 ∷ []) (name_text (get_or xs i d)) k l))

pub graph_answers : (g h : GraphState) (line : List ℕ) (c : Cmd) (k : GraphCmd) → Spells line c → c ≡ command.Graph k
    → h ≡ (step_of g k).0 → AnswersLine g line (line_of (reply_text (step_of g k).1)) h
graph_answers g h line c k s e is = record {
  command = command.Graph k;
  spelled = subst (Spells line) e s;
  written = (refl, is);
}

pub colours_answer : (g h : GraphState) (line text : List ℕ) (c : Cmd) → Spells line c → c ≡ command.Colours
    → WritesReached g text → h ≡ g → AnswersLine g line text h
colours_answer g h line text c s e w is = record {
  command = command.Colours;
  spelled = subst (Spells line) e s;
  written = (w, is);
}

-- a command that writes nothing
pub silent_answer : (g : GraphState) (o : Option (List ℕ)) (line : List ℕ) (c d : Cmd) → Spells line c → c ≡ d
    → WritesAnswer g d [] g → (answer : List ℕ) × AnswersLine g line answer g × Appends o o answer
silent_answer g o line c d s e w =
    ([], record { command = d; spelled = subst (Spells line) e s; written = w }, Appends-nil o)
