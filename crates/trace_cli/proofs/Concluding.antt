-- What a check of a dump writes and concludes, as an exit.
use Rattle.std.proofs.Common.{◌≡◌, ℕ, List, [], Option, Some, None, refl, ap, sym, subst, ◌⊎◌, inl, inr}
use Rattle.std.specs.Prelude.{⊤}
use Rattle.std.specs.Io.KnownBytes.{Appends}
use Rattle.std.proofs.KnownBytes.{Appends-trans, Appends-nil}
use Rattle.std.proofs.lemmas.List.{append-nil}
use Rattle.gz_io.specs.Causes.{Rose}
use Rattle.dump_check.specs.declared.checker.Verdict.{Verdict}
use Rattle.dump_check.specs.declared.checker.Verdict.TheVariants.{Sound, Fault}
use Rattle.dump_cli.specs.Verdicts.{EndsBy, HasTooMany, IsWellFormed, WritesVerdict, verdict_text}
use Rattle.dump_cli.specs.declared.reading.CheckEnd.{CheckEnd}
use Rattle.dump_cli.specs.declared.reading.CheckEnd.TheVariants as end
use Rattle.trace_cli.specs.Headline.{Checks, ChecksSo, Concluded, Concludes}
use Rattle.trace_cli.specs.declared.exit.Exit.{Exit}
use Rattle.trace_cli.specs.declared.exit.Exit.TheVariants as exit

-- a verdict that was written, after what is held back was to be handed on
handed : (input : List ℕ) (p q r : Option (List ℕ)) (v : Verdict) → WritesVerdict input p q v → Appends q r []
    → WritesVerdict input p r v
handed input p q r v h k = (h.0, rw append-nil at (Appends-trans p q r (verdict_text v) [] h.1 k))

hand_failed : (input : List ℕ) (p r : Option (List ℕ)) (v : Verdict) → WritesVerdict input p r v
    → EndsBy input p r end.WriteFault
hand_failed input p r v h = (v, h.0, (verdict_text v, [], sym (append-nil (verdict_text v)), h.1))

pub sound_checked : (input : List ℕ) (p q r : Option (List ℕ)) (e : Exit) → EndsBy input p q end.Sound → Appends q r []
    → (e ≡ exit.Done) ⊎ (e ≡ exit.WriteFault) → ChecksSo input p r e
sound_checked input p q r e h k (inl done) = subst (λ (x : Exit). ChecksSo input p r x) (sym done)
    (h.0, h.1, h.2, handed input p q r (Sound h.0 h.1 h.2) h.3 k)
sound_checked input p q r e h k (inr failed) = subst (λ (x : Exit). ChecksSo input p r x) (sym failed)
    (hand_failed input p r (Sound h.0 h.1 h.2) (handed input p q r (Sound h.0 h.1 h.2) h.3 k))

pub unsound_checked : (input : List ℕ) (p q r : Option (List ℕ)) (e : Exit) → EndsBy input p q end.Unsound
    → Appends q r [] → (e ≡ exit.Unsound) ⊎ (e ≡ exit.WriteFault) → ChecksSo input p r e
unsound_checked input p q r e h k (inl done) = subst (λ (x : Exit). ChecksSo input p r x) (sym done)
    (h.0, h.1, handed input p q r (Fault h.0 h.1) h.2 k)
unsound_checked input p q r e h k (inr failed) = subst (λ (x : Exit). ChecksSo input p r x) (sym failed)
    (hand_failed input p r (Fault h.0 h.1) (handed input p q r (Fault h.0 h.1) h.2 k))

-- of a source that does not tell its bytes nothing is owed
pub checks : (left p q : Option (List ℕ)) (e : Exit) → ((input : List ℕ) → left ≡ Some input → ChecksSo input p q e)
    → Checks left p q e
checks None p q e h = tt
checks (Some input) p q e h = h input refl

pub concluded : (left : Option (List ℕ)) (a b c d : ℕ) (e : Exit)
    → ((input : List ℕ) → left ≡ Some input → Concludes input a b c d e) → Concluded left a b c d e
concluded None a b c d e h = tt
concluded (Some input) a b c d e h = h input refl

abbrev pub exit_of : CheckEnd → Exit
exit_of end.Sound = exit.Done
exit_of end.Unsound = exit.Unsound
exit_of (end.BadLine n) = exit.BadLine n
exit_of end.ReadFault = exit.ReadFault
exit_of end.WriteFault = exit.WriteFault
exit_of end.NoMemory = exit.NoMemory
exit_of end.TooManyLines = exit.TooManyLines

-- what `check` of dump_cli says of its end
abbrev pub OfDump : List ℕ → ℕ → ℕ → ℕ → ℕ → CheckEnd → Type 0
OfDump input a b c d e = IsWellFormed input → (Rose a b → ⊥) → (Rose c d → ⊥)
    → (e ≡ end.Sound) ⊎ ((e ≡ end.Unsound) ⊎ (e ≡ end.NoMemory))

abbrev pub OfMany : List ℕ → CheckEnd → Type 0
OfMany input e = HasTooMany input → (e ≡ end.TooManyLines) ⊎ ((e ≡ end.ReadFault) ⊎ (e ≡ end.NoMemory))

-- an end whose exit is told as it is
pub concludes_as : (input : List ℕ) (a b c d : ℕ) (e : CheckEnd) → OfDump input a b c d e → OfMany input e
    → Concludes input a b c d (exit_of e)
concludes_as input a b c d e dump many = record {
  well_formed = λ w x y. elim (dump w x y) [
    | inl sound ↦ inl (ap exit_of sound)
    | inr other ↦ elim other [
      | inl unsound ↦ inr (inl (ap exit_of unsound))
      | inr memory ↦ inr (inr (ap exit_of memory))
    ]
  ];
  too_many = λ t. elim (many t) [
    | inl lines ↦ inl (ap exit_of lines)
    | inr other ↦ elim other [
      | inl read ↦ inr (inl (ap exit_of read))
      | inr memory ↦ inr (inr (ap exit_of memory))
    ]
  ];
}

-- the ends with a verdict, and their exits
abbrev pub IsVerdict : CheckEnd → Type 0
IsVerdict end.Sound = ⊤
IsVerdict end.Unsound = ⊤
IsVerdict (end.BadLine n) = ⊥
IsVerdict end.ReadFault = ⊥
IsVerdict end.WriteFault = ⊥
IsVerdict end.NoMemory = ⊥
IsVerdict end.TooManyLines = ⊥

verdict_exit : (e : CheckEnd) (r : Exit) → IsVerdict e → r ≡ exit_of e
    → (r ≡ exit.Done) ⊎ ((r ≡ exit.Unsound) ⊎ (r ≡ exit.NoMemory))
verdict_exit end.Sound r v e = inl e
verdict_exit end.Unsound r v e = inr (inl e)
verdict_exit (end.BadLine n) r v e = absurd v
verdict_exit end.ReadFault r v e = absurd v
verdict_exit end.WriteFault r v e = absurd v
verdict_exit end.NoMemory r v e = absurd v
verdict_exit end.TooManyLines r v e = absurd v

none_many : (input : List ℕ) (e : CheckEnd) → IsVerdict e → OfMany input e → HasTooMany input → ⊥
none_many input e v many t = elim (many t) [
  | inl lines ↦ subst IsVerdict lines v
  | inr other ↦ elim other [ inl read ↦ subst IsVerdict read v | inr memory ↦ subst IsVerdict memory v ]
]

-- a verdict, after what is held back was to be handed on
pub verdict_concludes : (input : List ℕ) (a b c m d : ℕ) (e : CheckEnd) (r : Exit) (B : Type 0) → IsVerdict e
    → OfMany input e → m ≡ c → ((r ≡ exit_of e) × (d ≡ m) × B) ⊎ ((r ≡ exit.WriteFault) × Rose m d)
    → Concludes input a b c d r
verdict_concludes input a b c m d e r B v many same cause = record {
  well_formed = λ w x y. elim cause [
    | inl done ↦ verdict_exit e r v done.0
    | inr failed ↦ absurd (y (subst (λ t. Rose t d) same failed.1))
  ];
  too_many = λ t. absurd (none_many input e v many t);
}

-- memory was wanted before anything was read
pub memory_checks : (left p : Option (List ℕ)) → Checks left p p exit.NoMemory
memory_checks None p = tt
memory_checks (Some input) p = Appends-nil p

pub memory_concludes : (left : Option (List ℕ)) (a b c d : ℕ) → Concluded left a b c d exit.NoMemory
memory_concludes None a b c d = tt
memory_concludes (Some input) a b c d = record {
  well_formed = λ w x y. inr (inr refl);
  too_many = λ t. inr (inr refl);
}
