-- Lines that ask for units: how their answers end, stop and break off.
use Rattle.std.proofs.Common.{◌≡◌, ◌≢◌, ◌⊎◌, ◌≤◌, ◌<◌, ◌+◌, ◌-◌, ℕ, List, Option, None, arith, inl, inr, refl, subst}
use Rattle.std.proofs.Common.{sym}
use Rattle.std.specs.Io.KnownBytes.{Appends}
use Rattle.gz_io.specs.Causes.{AppendsFront}
use Rattle.gz_names.specs.declared.commands.Cmd.{Cmd}
use Rattle.gz_names.specs.declared.commands.Cmd.TheVariants as command
use Rattle.cell_bits.specs.declared.bits.Bits.{Bits}
use Rattle.colour_defs.specs.Lawful.{IsRunning}
use Rattle.colour_defs.specs.World.{World}
use Rattle.slice_driver.specs.Collector.{CollectorState}
use Rattle.slice_driver.specs.Units.{IsSound}
use Rattle.trace_cli.specs.Headline.{WritesAnswer, WritesFront, WritesStart}
use Rattle.trace_cli.specs.Pending.{Allows, after, done_of, limit_of}
use Rattle.trace_cli.specs.Standing.{last_line}
use Rattle.trace_cli.specs.Starting.{IsAnswering, collects, finishes, resets, slices}
use Rattle.trace_cli.specs.Writing.{BreaksInUnits, StopsInUnits, WritesSoFar, WritesSweeps, WritesUnits}
use Rattle.trace_cli.specs.declared.pending.Pending.{Pending}
use Rattle.trace_cli.specs.declared.pending.Pending.TheVariants as pending
use Rattle.trace_cli.proofs.Answered.{collection_breaks, collection_fronts, collection_stops, collection_writes}
use Rattle.trace_cli.proofs.Resetting.{reset_fronted, reset_written}
use Rattle.trace_cli.proofs.Slicing.{finish_broken, finish_written, rest_breaks, rest_stops, slice_broken}
use Rattle.trace_cli.proofs.Slicing.{slice_written, units_break, units_stop}

-- a line asks for a reset, or for units
pub is_reset : (left : Pending) → (left ≡ pending.Reset) ⊎ (left ≢ pending.Reset)
is_reset pending.Collect = inr (λ e. cc e)
is_reset (pending.Slice more done) = inr (λ e. cc e)
is_reset (pending.Finish done) = inr (λ e. cc e)
is_reset pending.Reset = inl refl

-- what was done so far of it
pub units_so_far : (left : Pending) (w : World) (c : CollectorState) (f : ℕ → Option Bits) (most n : ℕ)
    (p q : Option (List ℕ)) → left ≢ pending.Reset → WritesSoFar left w c f most n p q → WritesUnits w c f most n p q
units_so_far pending.Collect w c f most n p q other h = h
units_so_far (pending.Slice more done) w c f most n p q other h = h
units_so_far (pending.Finish done) w c f most n p q other h = h
units_so_far pending.Reset w c f most n p q other h = absurd (other refl)

pub so_far_units : (left : Pending) (w : World) (c : CollectorState) (f : ℕ → Option Bits) (most n : ℕ)
    (p q : Option (List ℕ)) → left ≢ pending.Reset → WritesUnits w c f most n p q → WritesSoFar left w c f most n p q
so_far_units pending.Collect w c f most n p q other h = h
so_far_units (pending.Slice more done) w c f most n p q other h = h
so_far_units (pending.Finish done) w c f most n p q other h = h
so_far_units pending.Reset w c f most n p q other h = absurd (other refl)

pub sweeps_so_far : (left : Pending) (w : World) (c : CollectorState) (f : ℕ → Option Bits) (most n : ℕ)
    (p q : Option (List ℕ)) → left ≡ pending.Reset → WritesSoFar left w c f most n p q → WritesSweeps w c f p q
sweeps_so_far left w c f most n p q is h = subst (λ (x : Pending). WritesSoFar x w c f most n p q) is h

pub so_far_sweeps : (left : Pending) (w : World) (c : CollectorState) (f : ℕ → Option Bits) (most n : ℕ)
    (p q : Option (List ℕ)) → left ≡ pending.Reset → WritesSweeps w c f p q → WritesSoFar left w c f most n p q
so_far_sweeps left w c f most n p q is h = subst (λ (x : Pending). WritesSoFar x w c f most n p q) (sym is) h

pub so_far_sound : (left : Pending) (w : World) (c : CollectorState) (f : ℕ → Option Bits) (most n : ℕ)
    (p q : Option (List ℕ)) → WritesSoFar left w c f most n p q → IsSound c f
so_far_sound pending.Collect w c f most n p q h =
    record { world = h.after; valid = h.valid; represents = h.represents }
so_far_sound (pending.Slice more done) w c f most n p q h =
    record { world = h.after; valid = h.valid; represents = h.represents }
so_far_sound (pending.Finish done) w c f most n p q h =
    record { world = h.after; valid = h.valid; represents = h.represents }
so_far_sound pending.Reset w c f most n p q h =
    record { world = h.after; valid = h.valid; represents = h.represents }

-- a reset is asked for where a collection runs, in the world in which it is begun
pub record IsReset (w : World) (cmd : Cmd) (begun : World) : Type 0 where
  pub cmd_is : cmd ≡ command.Reset
  pub running : IsRunning w
  pub same : begun ≡ w

pub reset_asked : (w : World) (cmd : Cmd) (left : Pending) (n : ℕ) (begun : World) (most : ℕ)
    → IsAnswering w cmd left n begun most → left ≡ pending.Reset → IsReset w cmd begun
reset_asked w cmd left n begun most (collects zones c l b) is = absurd (cc (l, is))
reset_asked w cmd left n begun most (slices budget more c l sum r b) is = absurd (cc (l, is))
reset_asked w cmd left n begun most (finishes c l r b) is = absurd (cc (l, is))
reset_asked w cmd left n begun most (resets c l r b) is = record { cmd_is = c; running = r; same = b }

-- no unit is left to be done
abbrev pub IsOver : Pending → CollectorState → Type 0
IsOver left c = 0 < limit_of left → c.run ≡ None

-- more units are counted
pub answers_more : (w : World) (cmd : Cmd) (left : Pending) (n m : ℕ) (begun : World) (most : ℕ)
    → IsAnswering w cmd left n begun most → Allows left m → IsAnswering w cmd (after m left) (n + m) begun most
answers_more w cmd left n m begun most (collects zones c p b) allowed =
    collects zones c (subst (λ (l : Pending). after m l ≡ pending.Collect) (sym p) refl) b
answers_more w cmd left n m begun most (slices budget more c p sum r b) allowed =
    let fewer : m ≤ more = subst (λ (l : Pending). Allows l m) p allowed in
    slices budget (more - m) c (subst (λ (l : Pending). after m l ≡ after m (pending.Slice more n)) (sym p) refl)
    (omega (arith, sum, fewer)) r b
answers_more w cmd left n m begun most (finishes c p r b) allowed =
    finishes c (subst (λ (l : Pending). after m l ≡ pending.Finish (n + m)) (sym p) refl) r b
answers_more w cmd left n m begun most (resets c p r b) allowed =
    resets c (subst (λ (l : Pending). after m l ≡ pending.Reset) (sym p) refl) r b

-- what is counted is counted here, or not at all
pub done_counted : (w : World) (cmd : Cmd) (left : Pending) (n : ℕ) (begun : World) (most : ℕ)
    → IsAnswering w cmd left n begun most → done_of left ≤ n
done_counted w cmd left n begun most (collects zones c p b) =
    subst (λ (l : Pending). done_of l ≤ n) (sym p) (omega arith)
done_counted w cmd left n begun most (slices budget more c p sum r b) =
    subst (λ (l : Pending). done_of l ≤ n) (sym p) (omega arith)
done_counted w cmd left n begun most (finishes c p r b) = subst (λ (l : Pending). done_of l ≤ n) (sym p) (omega arith)
done_counted w cmd left n begun most (resets c p r b) = subst (λ (l : Pending). done_of l ≤ n) (sym p) (omega arith)

-- all was done, and the last line was written, or a prefix of it
module _ (w : World) (cmd : Cmd) (left : Pending) (n : ℕ) (begun : World) (most : ℕ) (d : CollectorState)
    (g : ℕ → Option Bits) (p q r : Option (List ℕ)) (so_far : WritesSoFar left begun d g most n p q)
    (over : IsOver left d) where
  abbrev So : Pending → World → Type 0
  So x v = WritesSoFar x v d g most n p q

  here : (x : Pending) → left ≡ x → begun ≡ w → So x w
  here x l b = subst (λ (v : World). So x v) b (subst (λ (y : Pending). So y begun) l so_far)

  abbrev Ends : Pending → Type 0
  Ends x = Appends q r (last_line x)

  abbrev Breaks : Pending → Type 0
  Breaks x = AppendsFront q r (last_line x)

  pub line_writes : IsAnswering w cmd left n begun most → Appends q r (last_line left) → WritesAnswer w cmd d g p r
  line_writes (collects zones c l b) written =
      let idle = subst (λ (x : Pending). IsOver x d) l over (omega arith) in
      let units = subst (λ (y : Pending). So y begun) l so_far in
      subst (λ (x : Cmd). WritesAnswer w x d g p r) (sym c)
      (collection_writes w begun zones d g most n p q r b units idle (subst (λ (x : Pending). Ends x) l written))
  line_writes (slices budget more c l sum runs b) written =
      let idle = subst (λ (x : Pending). IsOver x d) l over in
      subst (λ (x : Cmd). WritesAnswer w x d g p r) (sym c)
      (slice_written d g most n w runs p q r (here (pending.Slice more n) l b) budget (omega (arith, sum))
      (λ less. idle (omega (arith, sum, less))) (subst (λ (x : Pending). Ends x) l written))
  line_writes (finishes c l runs b) written =
      let idle = subst (λ (x : Pending). IsOver x d) l over (omega arith) in
      subst (λ (x : Cmd). WritesAnswer w x d g p r) (sym c)
      (finish_written d g most n w runs p q r (here (pending.Finish n) l b) idle
      (subst (λ (x : Pending). Ends x) l written))
  line_writes (resets c l running b) written =
      let idle = subst (λ (x : Pending). IsOver x d) l over (omega arith) in
      subst (λ (x : Cmd). WritesAnswer w x d g p r) (sym c)
      (reset_written w d g p q r (here pending.Reset l b) idle (subst (λ (x : Pending). Ends x) l written))

  pub line_fronts : IsAnswering w cmd left n begun most → AppendsFront q r (last_line left) → WritesFront w cmd p r
  line_fronts (collects zones c l b) written =
      let idle = subst (λ (x : Pending). IsOver x d) l over (omega arith) in
      let units = subst (λ (y : Pending). So y begun) l so_far in
      subst (λ (x : Cmd). WritesFront w x p r) (sym c)
      (collection_fronts w begun zones d g most n p q r b units idle (subst (λ (x : Pending). Breaks x) l written))
  line_fronts (slices budget more c l sum runs b) written =
      let idle = subst (λ (x : Pending). IsOver x d) l over in
      subst (λ (x : Cmd). WritesFront w x p r) (sym c)
      (slice_broken d g most n w runs p q r (here (pending.Slice more n) l b) budget (omega (arith, sum))
      (λ less. idle (omega (arith, sum, less))) (subst (λ (x : Pending). Breaks x) l written))
  line_fronts (finishes c l runs b) written =
      let idle = subst (λ (x : Pending). IsOver x d) l over (omega arith) in
      subst (λ (x : Cmd). WritesFront w x p r) (sym c)
      (finish_broken d g most n w runs p q r (here (pending.Finish n) l b) idle
      (subst (λ (x : Pending). Breaks x) l written))
  line_fronts (resets c l running b) written =
      let idle = subst (λ (x : Pending). IsOver x d) l over (omega arith) in
      subst (λ (x : Cmd). WritesFront w x p r) (sym c)
      (reset_fronted w d g p q r (here pending.Reset l b) idle (subst (λ (x : Pending). Breaks x) l written))

-- it broke off, or stopped, among its units: these are all of them, of which `m` were done since
module _ (w : World) (cmd : Cmd) (left : Pending) (n m : ℕ) (begun : World) (most : ℕ) (p q : Option (List ℕ))
    (a : IsAnswering w cmd left n begun most) (other : left ≢ pending.Reset) (allowed : Allows left m) where
  pub line_breaks : BreaksInUnits begun (n + m) p q → WritesFront w cmd p q
  line_breaks broken = go a where
    go : IsAnswering w cmd left n begun most → WritesFront w cmd p q
    go (collects zones c l b) = subst (λ (x : Cmd). WritesFront w x p q) (sym c)
        (collection_breaks w begun zones (n + m) p q b broken)
    go (slices budget more c l sum runs b) =
        let fewer : m ≤ more = subst (λ (x : Pending). Allows x m) l allowed in
        let here = subst (λ (v : World). BreaksInUnits v (n + m) p q) b broken in
        subst (λ (x : Cmd). WritesFront w x p q) (sym c) (units_break w budget p q (record {
          units = here.units;
          most = omega (arith, here.most, sum, fewer);
          after = here.after;
          done = here.done;
          written = here.written;
        }))
    go (finishes c l runs b) = subst (λ (x : Cmd). WritesFront w x p q) (sym c)
        (rest_breaks w p q (n + m, subst (λ (v : World). BreaksInUnits v (n + m) p q) b broken))
    go (resets c l running b) = absurd (other l)

  pub line_stops : StopsInUnits begun (n + m) p q → WritesStart w cmd p q
  line_stops stopped = go a where
    go : IsAnswering w cmd left n begun most → WritesStart w cmd p q
    go (collects zones c l b) = subst (λ (x : Cmd). WritesStart w x p q) (sym c)
        (collection_stops w begun zones (n + m) p q b stopped)
    go (slices budget more c l sum runs b) =
        let fewer : m ≤ more = subst (λ (x : Pending). Allows x m) l allowed in
        let here = subst (λ (v : World). StopsInUnits v (n + m) p q) b stopped in
        subst (λ (x : Cmd). WritesStart w x p q) (sym c) (units_stop w budget p q runs.running (record {
          units = here.units;
          most = omega (arith, here.most, sum, fewer);
          after = here.after;
          done = here.done;
          written = here.written;
        }))
    go (finishes c l runs b) = subst (λ (x : Cmd). WritesStart w x p q) (sym c)
        (rest_stops w p q runs.running (n + m, subst (λ (v : World). StopsInUnits v (n + m) p q) b stopped))
    go (resets c l running b) = absurd (other l)
