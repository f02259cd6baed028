-- How a replay is over.
use Rattle.std.proofs.Common.{◌≡◌, ◌≢◌, ℕ, ◌+◌, ◌-◌, ◌^◌, ◌≤◌, min, List, [], Option, Result, Err}
use Rattle.std.proofs.Common.{Ok, true, false, refl, sym, subst, ◌∙◌, arith, inl, inr, ◌⊎◌}
use Rattle.std.specs.Prelude.{OnOk, OnErr}
use Rattle.std.specs.Result.{is_err}
use Rattle.std.specs.Io.KnownBytes.{Appends}
use Rattle.gz_io.specs.Causes.{Rose}
use Rattle.command_source.specs.Input.{Input}
use Rattle.colour_defs.specs.World.{first_world}
use Rattle.trace_cli.specs.declared.exit.Exit.{Exit}
use Rattle.trace_cli.specs.declared.exit.Exit.TheVariants as exit
use Rattle.trace_cli.specs.declared.machine.Machine.{Machine}
use Rattle.trace_cli.specs.Headline.{Replays}
use Rattle.trace_cli.specs.Standing.{EndsIn, Entry, HandsOn, HasEnded, ReplayEnds, entry_of}
use Rattle.trace_cli.proofs.Stands.{ends_write, memory_ends, stands_first}

-- what a call ensures at `Ok`, where it was no `Err`, and the other way round
pub from_ok : {T E : Type 0} {P : Type 0} (r : Result T E) → is_err r ≡ false → OnOk r P → P
from_ok (Ok x) e h = h
from_ok (Err y) e h = absurd (cc e)

pub from_err : {T E : Type 0} {P : Type 0} (r : Result T E) → is_err r ≡ true → OnErr r P → P
from_err (Ok x) e h = absurd (cc e)
from_err (Err y) e h = h

rose_more : (a b c : ℕ) → a ≤ b → Rose b c → Rose a c
rose_more a b c le rose =
    let r : min (b + 1) (2 ^ 64 - 1) ≤ c = rose in
    let s : min (a + 1) (2 ^ 64 - 1) ≤ c = omega (arith, le, r) in s

-- the answers are handed on, whatever the exit but a failed write
pub handed_by : {x r : Exit} {f g behind : ℕ} → HandsOn x r f g behind → r ≢ exit.WriteFault → behind ≡ 0
handed_by (inl h) k = h.2
handed_by (inr h) k = absurd (k h.0)

-- the exit is this one, or that of a fault of the sink
pub handed_exit : {x r : Exit} {f g behind : ℕ} → HandsOn x r f g behind → (r ≡ x) ⊎ (r ≡ exit.WriteFault)
handed_exit (inl h) = inl h.0
handed_exit (inr h) = inr h.0

-- an exit that is neither the end nor a fault of the source or the sink
pub record IsNoEnd (x : Exit) : Type 0 where
  pub done : x ≢ exit.Done
  pub read : x ≢ exit.ReadFault
  pub write : x ≢ exit.WriteFault
  pub usage : x ≢ exit.Usage
  pub verdict : x ≢ exit.Unsound

pub memory_is_none : IsNoEnd exit.NoMemory
memory_is_none =
    record { done = λ k. cc k; read = λ k. cc k; write = λ k. cc k; usage = λ k. cc k; verdict = λ k. cc k }

pub limit_is_none : IsNoEnd exit.TooManyLines
limit_is_none =
    record { done = λ k. cc k; read = λ k. cc k; write = λ k. cc k; usage = λ k. cc k; verdict = λ k. cc k }

pub bad_is_none : (n : ℕ) → IsNoEnd (exit.BadLine n)
bad_is_none n =
    record { done = λ k. cc k; read = λ k. cc k; write = λ k. cc k; usage = λ k. cc k; verdict = λ k. cc k }

-- a replay is over by a fault of the sink
pub over_write : (e : Entry) (left q : Option (List ℕ)) (reads f g behind : ℕ)
    → Replays e.left left e.written q exit.WriteFault → e.writes ≤ f → Rose f g
    → ReplayEnds e exit.WriteFault left q reads g behind
over_write e left q reads f g behind lawful le rose = record {
  lawful = lawful;
  quiet = λ k. absurd (cc k);
  handed_on = λ k. absurd (k refl);
  read = λ k. absurd (cc k);
  write = λ k. rose_more e.writes f g le rose;
  runs = λ k. cc k;
  no_verdict = λ k. cc k;
}

-- or by an exit, with which all that was held back is handed on
over_by : (e : Entry) (x r : Exit) (left q : Option (List ℕ)) (reads f g behind : ℕ)
    → Replays e.left left e.written q x → Replays e.left left e.written q exit.WriteFault → e.writes ≤ f
    → HandsOn x r f g behind → (x ≡ exit.Done → (reads ≡ e.reads) × (f ≡ e.writes))
    → (x ≡ exit.ReadFault → Rose e.reads reads) → x ≢ exit.WriteFault → x ≢ exit.Usage → x ≢ exit.Unsound
    → ReplayEnds e r left q reads g behind
over_by e x r left q reads f g behind lawful broken le (inl h) done read other usage verdict =
    subst (λ (y : Exit). ReplayEnds e y left q reads g behind) (sym h.0) (record {
      lawful = lawful;
      quiet = λ k. (let d = done k in (d.0, h.1 ∙ d.1));
      handed_on = λ k. h.2;
      read = read;
      write = λ k. absurd (other k);
      runs = usage;
      no_verdict = verdict;
    })
over_by e x r left q reads f g behind lawful broken le (inr h) done read other usage verdict =
    subst (λ (y : Exit). ReplayEnds e y left q reads g behind) (sym h.0)
    (over_write e left q reads f g behind broken le h.1)

over_plain : (e : Entry) (x r : Exit) (left q : Option (List ℕ)) (reads f g behind : ℕ)
    → Replays e.left left e.written q x → Replays e.left left e.written q exit.WriteFault → e.writes ≤ f → IsNoEnd x
    → HandsOn x r f g behind → ReplayEnds e r left q reads g behind
over_plain e x r left q reads f g behind lawful broken le none cause =
    over_by e x r left q reads f g behind lawful broken le cause (λ k. absurd (none.done k))
    (λ k. absurd (none.read k)) none.write none.usage none.verdict

no_end_in : {x r : Exit} {f g behind : ℕ} (e : Entry) (m : Machine) (q : Option (List ℕ)) → IsNoEnd x
    → HandsOn x r f g behind → r ≡ exit.Done → EndsIn e m q
no_end_in e m q none (inl h) k = absurd (none.done (sym h.0 ∙ k))
no_end_in e m q none (inr h) k = absurd (let t = h.0 in cc (t, k))

not_done : {r : Exit} {f g behind : ℕ} (e : Entry) (m : Machine) (q : Option (List ℕ))
    → HandsOn exit.ReadFault r f g behind → r ≡ exit.Done → EndsIn e m q
not_done e m q (inl h) k = absurd (let t = h.0 in cc (t, k))
not_done e m q (inr h) k = absurd (let t = h.0 in cc (t, k))

-- so the loop is over
pub ended_write : (e : Entry) (m : Machine) (i : Input) (q : Option (List ℕ)) (f g behind : ℕ)
    → Replays e.left i.left e.written q exit.WriteFault → e.writes ≤ f → Rose f g
    → HasEnded e exit.WriteFault m i q g behind
ended_write e m i q f g behind lawful le rose =
    record { over = over_write e i.left q i.faults f g behind lawful le rose; ends_in = λ k. absurd (cc k) }

pub ended_plain : (e : Entry) (m : Machine) (r : Exit) (i : Input) (q : Option (List ℕ)) (f g behind : ℕ)
    → Replays e.left i.left e.written q exit.WriteFault → e.writes ≤ f → (x : Exit)
    → Replays e.left i.left e.written q x → IsNoEnd x → HandsOn x r f g behind → HasEnded e r m i q g behind
ended_plain e m r i q f g behind broken le x lawful none cause = record {
  over = over_plain e x r i.left q i.faults f g behind lawful broken le none cause;
  ends_in = no_end_in e m q none cause;
}

pub ended_read : (e : Entry) (m : Machine) (r : Exit) (i : Input) (q : Option (List ℕ)) (f g behind : ℕ)
    → Replays e.left i.left e.written q exit.WriteFault → e.writes ≤ f
    → Replays e.left i.left e.written q exit.ReadFault → Rose e.reads i.faults
    → HandsOn exit.ReadFault r f g behind → HasEnded e r m i q g behind
ended_read e m r i q f g behind broken le lawful rose cause = record {
  over = over_by e exit.ReadFault r i.left q i.faults f g behind lawful broken le cause (λ k. absurd (cc k))
      (λ k. rose) (λ k. cc k) (λ k. cc k) (λ k. cc k);
  ends_in = not_done e m q cause;
}

pub ended_done : (e : Entry) (m : Machine) (r : Exit) (i : Input) (q : Option (List ℕ)) (f g behind : ℕ)
    → Replays e.left i.left e.written q exit.WriteFault → e.writes ≤ f → Replays e.left i.left e.written q exit.Done
    → i.faults ≡ e.reads → f ≡ e.writes → EndsIn e m q → HandsOn exit.Done r f g behind
    → HasEnded e r m i q g behind
ended_done e m r i q f g behind broken le lawful reads writes ends cause = record {
  over = over_by e exit.Done r i.left q i.faults f g behind lawful broken le cause (λ k. (reads, writes))
      (λ k. absurd (cc k)) (λ k. cc k) (λ k. cc k) (λ k. cc k);
  ends_in = λ k. ends;
}

-- memory was wanted before anything was read
pub over_at_once : (left p q : Option (List ℕ)) (reads f g behind : ℕ) (r : Exit) → Appends p q []
    → HandsOn exit.NoMemory r f g behind → ReplayEnds (entry_of left p reads f) r left q reads g behind
over_at_once left p q reads f g behind r kept cause =
    over_plain (entry_of left p reads f) exit.NoMemory r left q reads f g behind (memory_ends left p q kept)
    (ends_write left left p p q [] 0 first_world (stands_first left p [] refl) kept) (omega arith) memory_is_none cause
