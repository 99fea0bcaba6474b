-- The types whose numbers elements hold.
use Rattle.dk_base.specs.declared.ty.Ty.{Ty}
use Rattle.dk_base.specs.declared.ty.Ty.TheVariants.{Unsigned, Signed}
use Rattle.dk_base.specs.Types.{IsWithin}
use Rattle.pointwise_eval.specs.declared.rows.ElementKind.{ElementKind}
use Rattle.pointwise_eval.specs.declared.rows.ElementKind.TheVariants.{Unsigned8, Unsigned16, Unsigned32, Signed8, Signed16, Signed32, Signed64}

-- the elements hold all numbers of the type; those of 64 bits are asked nothing
abbrev pub HoldsAll : ElementKind → Ty → Type 0
HoldsAll Unsigned8 t = IsWithin t (Unsigned 8)
HoldsAll Unsigned16 t = IsWithin t (Unsigned 16)
HoldsAll Unsigned32 t = IsWithin t (Unsigned 32)
HoldsAll Signed8 t = IsWithin t (Signed 8)
HoldsAll Signed16 t = IsWithin t (Signed 16)
HoldsAll Signed32 t = IsWithin t (Signed 32)
HoldsAll Signed64 t = Unit {0}
