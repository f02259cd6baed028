use Rattle.std.proofs.Common.{◌≡◌, ◌+◌, ◌-◌, ◌*◌, ◌≤◌, ◌<◌, ℕ, List, length, arith, ap}
use Rattle.arena_table.specs.Slots.{Arena}
use Rattle.arena_table.specs.Stored.{AreStored, StoreState, arenas_of}
use Rattle.arena_table.specs.declared.cells.Cell.{Cell}
use Rattle.arena_table.specs.declared.store.Head.{Head}
use Rattle.arena_table.proofs.Storing.{in_heads}
use Rattle.arena_table.proofs.Naming.{names_of-stored}
use Rattle.arena_table.proofs.store.Store.names_at.Goals as goal

-- an arena's cells are among those of all, which are few
room : (hs : List Head) (cs : List Cell) (arenas : List Arena) (i : ℕ) → AreStored hs cs → arenas_of hs cs ≡ arenas
    → i < length arenas → (64 * i + 64 ≤ length cs) × (length cs < 4294967296)
room hs cs arenas i stored e lt =
    let within = in_heads hs cs arenas i e lt in (
      omega (arith, stored.whole),
      omega (arith, stored.whole, stored.few),
    )

pub overflow_mul-first : goal.overflow_mul-first
overflow_mul-first c =
    let fits = room c.self.inside.heads.items c.self.inside.cells.items _ c.args.arena c.self.invariant
    (ap (λ (s : StoreState). s.arenas) c.self.view_is) c.requires.made in
    omega (arith, fits.0, fits.1)

pub overflow_add-first : goal.overflow_add-first
overflow_add-first c =
    let fits = room c.self.inside.heads.items c.self.inside.cells.items _ c.args.arena c.self.invariant
    (ap (λ (s : StoreState). s.arenas) c.self.view_is) c.requires.made in
    omega (arith, fits.0, fits.1)

pub offset_bounds-cells-first : goal.offset_bounds-cells-first
offset_bounds-cells-first c =
    let fits = room c.self.inside.heads.items c.self.inside.cells.items _ c.args.arena c.self.invariant
    (ap (λ (s : StoreState). s.arenas) c.self.view_is) c.requires.made in
    omega (arith, fits.0, fits.1)

pub slice_bounds-names_of_cells-end : goal.slice_bounds-names_of_cells-end
slice_bounds-names_of_cells-end c =
    let fits = room c.self.inside.heads.items c.self.inside.cells.items _ c.args.arena c.self.invariant
    (ap (λ (s : StoreState). s.arenas) c.self.view_is) c.requires.made in
    omega (arith, fits.0, ap length c.as_slice-cells.ensures.value)

pub returns : goal.returns
returns c =
    let all : 64 * c.args.arena + 64 - 64 * c.args.arena ≡ 64 = omega arith in
    names_of-stored c.self.inside.heads.items c.self.inside.cells.items _ c.args.arena c.args.word
    c.names_of_cells.new.names c.self.invariant (ap (λ (s : StoreState). s.arenas) c.self.view_is)
    c.requires.made c.requires.cells (rw (all, c.as_slice-cells.ensures.value) at c.names_of_cells.ensures)
