-- What is reached in a graph as it is now: from its registers, and from its registers and gray slots.
use Rattle.std.specs.Prelude.{◌≡◌, ◌⊎◌, ℕ, ◌<◌, Some}
use Rattle.gz_names.specs.declared.names.Name.{Name}
use Rattle.colour_defs.specs.Graph.{GraphState, register_cell, slot_cell}
use Rattle.colour_defs.specs.Closure.{Closure}

-- one of the first n registers holds x
abbrev pub IsInRegistersBelow : ℕ → GraphState → Name → Type 0
IsInRegistersBelow n g x = (r : ℕ) × (r < n) × (register_cell g r ≡ Some x)

-- one of the first n gray slots holds x
abbrev pub IsInSlotsBelow : ℕ → GraphState → Name → Type 0
IsInSlotsBelow n g x = (s : ℕ) × (s < n) × (slot_cell g s ≡ Some x)

-- a register holds x
abbrev pub IsInRegister : GraphState → Name → Type 0
IsInRegister = IsInRegistersBelow 16

-- a register or a gray slot holds x
abbrev pub IsRoot : GraphState → Name → Type 0
IsRoot g x = IsInRegister g x ⊎ IsInSlotsBelow 64 g x

-- what the registers reach
abbrev pub IsBlackNow : GraphState → Name → Type 0
IsBlackNow g = Closure g (IsInRegister g)

-- what the registers and the gray slots reach
abbrev pub IsLiveNow : GraphState → Name → Type 0
IsLiveNow g = Closure g (IsRoot g)
