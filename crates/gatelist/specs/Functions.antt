-- The functions of gates and their numbers in a gate's header. Assumes nothing.
use Rattle.std.specs.Prelude.{ℕ, ◌<◌, ◌≡◌, Option, Some, None}
use Rattle.word32.specs.Fields.{gate_function}
use Rattle.gatelist.specs.declared.Function.{Function}
use Rattle.gatelist.specs.declared.Function.TheVariants.{And, Or, Nand, Nor, Not, Buf}

abbrev pub function_number : Function → ℕ
function_number And = 0
function_number Or = 1
function_number Nand = 2
function_number Nor = 3
function_number Not = 4
function_number Buf = 5

-- what the header w of a gate has: a function by its number, or none where the number is of no function
abbrev pub FunctionTold : ℕ → Option Function → Type 0
FunctionTold w (Some f) = gate_function w ≡ function_number f
FunctionTold w None = 5 < gate_function w
