-- Worked modules, whose texts are known.
use Rattle.std.specs.Prelude.{[], ◌∷◌, true, false, codes}
use Rattle.wiring.specs.declared.right.Atom.TheVariants as atom
use Rattle.wiring.specs.declared.right.Operator.TheVariants.{Add, Subtract, Multiply, Divide, Less, Equal, And, Or, Xor}
use Rattle.wiring.specs.declared.right.Right.{Right}
use Rattle.wiring.specs.declared.right.Right.TheVariants.{Copy, Not, Binary, Choose, Join, Repeat, Bit, Slice, Word}
use Rattle.wiring.specs.declared.netlist.Net.{Net}
use Rattle.wiring.specs.declared.netlist.Net.TheVariants.{Input, Output, Wire, Reg}
use Rattle.wiring.specs.declared.netlist.Assign.{Assign}
use Rattle.wiring.specs.declared.netlist.Update.TheVariants.{Set, Put}
use Rattle.std.specs.Prelude.{ℕ}
use Rattle.netlist.specs.Names.{NamedNetlist}

abbrev pub drives : Net → Right Net ℕ → Assign
drives target right = record { target = target; right = right }

-- each pixel at once, with no state
abbrev pub copy_module : NamedNetlist
copy_module = record {
  netlist = record {
    enable = false;
    inputs = 1 ∷ 8 ∷ [];
    outputs = 1 ∷ 8 ∷ [];
    wires = [];
    regs = [];
    arrays = [];
    assigns =
        drives (Output 0) (Not (atom.Net (Input 0))) ∷ drives (Output 1) (Copy (atom.Net (Input 1))) ∷ [];
    updates = [];
  };
  names = record { «module» = codes "dk"; wires = []; regs = []; arrays = [] };
}

-- three words, read at din
abbrev pub table_module : NamedNetlist
table_module = record {
  netlist = record {
    enable = false;
    inputs = 1 ∷ 2 ∷ [];
    outputs = 1 ∷ 8 ∷ [];
    wires = [];
    regs = [];
    arrays = (record { width = 8; depth = 3 }) ∷ [];
    assigns =
        drives (Output 0) (Not (atom.Net (Input 0))) ∷ drives (Output 1) (Word 0 (atom.Net (Input 1))) ∷ [];
    updates = Put 0 (atom.Constant (record { width = 2; value = 0 })) (atom.Constant (record { width = 8; value = 5 })) ∷ [];
  };
  names = record { «module» = codes "m"; wires = []; regs = []; arrays = codes "m0" ∷ [] };
}

-- a register that holds its value where en is 0
abbrev pub held_module : NamedNetlist
held_module = record {
  netlist = record {
    enable = true;
    inputs = 1 ∷ 1 ∷ 8 ∷ [];
    outputs = 1 ∷ 8 ∷ [];
    wires = 8 ∷ [];
    regs = 8 ∷ [];
    arrays = [];
    assigns =
        drives (Wire 0) (Choose (atom.Net (Input 1)) (atom.Net (Input 2)) (atom.Net (Reg 0))) ∷ drives (Output 0) (Not (atom.Net (Input 0))) ∷ drives (Output 1) (Copy (atom.Net (Reg 0))) ∷ [];
    updates = Set 0 (atom.Net (Wire 0)) ∷ [];
  };
  names = record { «module» = codes "dk"; wires = codes "n0" ∷ []; regs = codes "r0" ∷ []; arrays = [] };
}

-- eight inputs and eight outputs
abbrev pub ports_module : NamedNetlist
ports_module = record {
  netlist = record {
    enable = false;
    inputs = 1 ∷ 1 ∷ 2 ∷ 3 ∷ 4 ∷ 5 ∷ 6 ∷ 7 ∷ 16 ∷ [];
    outputs = 1 ∷ 1 ∷ 1 ∷ 2 ∷ 1 ∷ 3 ∷ 1 ∷ 4 ∷ 1 ∷ 5 ∷ 1 ∷ 6 ∷ 1 ∷ 7 ∷ 1 ∷ 16 ∷ [];
    wires = [];
    regs = [];
    arrays = [];
    assigns =
        drives (Output 0) (Not (atom.Net (Input 0))) ∷ drives (Output 1) (Copy (atom.Net (Input 1))) ∷ drives (Output 2) (Not (atom.Net (Input 0))) ∷ drives (Output 3) (Copy (atom.Net (Input 2))) ∷ drives (Output 4) (Not (atom.Net (Input 0))) ∷ drives (Output 5) (Copy (atom.Net (Input 3))) ∷ drives (Output 6) (Not (atom.Net (Input 0))) ∷ drives (Output 7) (Copy (atom.Net (Input 4))) ∷ drives (Output 8) (Not (atom.Net (Input 0))) ∷ drives (Output 9) (Copy (atom.Net (Input 5))) ∷ drives (Output 10) (Not (atom.Net (Input 0))) ∷ drives (Output 11) (Copy (atom.Net (Input 6))) ∷ drives (Output 12) (Not (atom.Net (Input 0))) ∷ drives (Output 13) (Copy (atom.Net (Input 7))) ∷ drives (Output 14) (Not (atom.Net (Input 0))) ∷ drives (Output 15) (Copy (atom.Net (Input 8))) ∷ [];
    updates = [];
  };
  names = record { «module» = codes "dk"; wires = []; regs = []; arrays = [] };
}

-- each right side
abbrev pub rights_module : NamedNetlist
rights_module = record {
  netlist = record {
    enable = false;
    inputs = 1 ∷ 8 ∷ [];
    outputs = 1 ∷ 8 ∷ [];
    wires = 8 ∷ 8 ∷ 8 ∷ 8 ∷ 8 ∷ 8 ∷ 1 ∷ 1 ∷ 8 ∷ 8 ∷ 8 ∷ 8 ∷ 16 ∷ 24 ∷ 1 ∷ 8 ∷ 8 ∷ [];
    regs = [];
    arrays = (record { width = 8; depth = 2 }) ∷ [];
    assigns =
        drives (Wire 0) (Copy (atom.Net (Input 1))) ∷ drives (Wire 1) (Not (atom.Net (Input 1))) ∷ drives (Wire 2) (Binary Add (atom.Net (Wire 0)) (atom.Net (Wire 1))) ∷ drives (Wire 3) (Binary Subtract (atom.Net (Wire 2)) (atom.Net (Input 1))) ∷ drives (Wire 4) (Binary Multiply (atom.Net (Wire 3)) (atom.Net (Wire 1))) ∷ drives (Wire 5) (Binary Divide (atom.Net (Wire 4)) (atom.Constant (record { width = 8; value = 3 }))) ∷ drives (Wire 6) (Binary Less (atom.Net (Wire 4)) (atom.Net (Wire 5))) ∷ drives (Wire 7) (Binary Equal (atom.Net (Wire 4)) (atom.Net (Wire 5))) ∷ drives (Wire 8) (Binary And (atom.Net (Wire 0)) (atom.Net (Wire 1))) ∷ drives (Wire 9) (Binary Or (atom.Net (Wire 8)) (atom.Net (Wire 5))) ∷ drives (Wire 10) (Binary Xor (atom.Net (Wire 9)) (atom.Net (Wire 4))) ∷ drives (Wire 11) (Choose (atom.Net (Wire 6)) (atom.Net (Wire 10)) (atom.Net (Wire 8))) ∷ drives (Wire 12) (Join (atom.Net (Wire 11)) (atom.Net (Wire 10))) ∷ drives (Wire 13) (Repeat 3 (atom.Net (Wire 11))) ∷ drives (Wire 14) (Bit (Wire 12) 15) ∷ drives (Wire 15) (Slice (Wire 13) 16 9) ∷ drives (Wire 16) (Word 0 (atom.Net (Wire 14))) ∷ drives (Output 0) (Copy (atom.Net (Wire 7))) ∷ drives (Output 1) (Copy (atom.Net (Wire 16))) ∷ [];
    updates = Put 0 (atom.Net (Wire 6)) (atom.Net (Wire 15)) ∷ [];
  };
  names = record { «module» = codes "dk"; wires = codes "n0" ∷ codes "n1" ∷ codes "n2" ∷ codes "n3" ∷ codes "n4" ∷ codes "n5" ∷ codes "n6" ∷ codes "n7" ∷ codes "n8" ∷ codes "n9" ∷ codes "n10" ∷ codes "n11" ∷ codes "n12" ∷ codes "n13" ∷ codes "n14" ∷ codes "n15" ∷ codes "n16" ∷ []; regs = []; arrays = codes "m0" ∷ [] };
}

-- constants of 1 and of 64 bits
abbrev pub constants_module : NamedNetlist
constants_module = record {
  netlist = record {
    enable = false;
    inputs = 1 ∷ 1 ∷ [];
    outputs = 1 ∷ 1 ∷ [];
    wires = 64 ∷ [];
    regs = [];
    arrays = [];
    assigns =
        drives (Wire 0) (Copy (atom.Constant (record { width = 64; value = 18446744073709551615 }))) ∷ drives (Output 0) (Copy (atom.Constant (record { width = 1; value = 1 }))) ∷ drives (Output 1) (Binary Equal (atom.Net (Wire 0)) (atom.Constant (record { width = 64; value = 9223372036854775808 }))) ∷ [];
    updates = [];
  };
  names = record { «module» = codes "dk"; wires = codes "n0" ∷ []; regs = []; arrays = [] };
}
