-- The flow lines of a flow: one for each constraint that carries some.
use Rattle.std.specs.Prelude.{ℕ, zero, suc, ◌-◌, List, [], ◌∷◌, ◌++◌, map, filter, nat_lt}
use Rattle.std.specs.List.{range_with_len}
use Rattle.raster_delay.specs.Systems.{System, image_count, placed_reads}
use Rattle.report_text.specs.declared.report.FlowLine.{FlowLine}
use Rattle.report_text.specs.declared.report.FlowLine.TheVariants.{Hold, Start, Read, Keep}

-- what makes the flow line of each constraint from its flow, in their order; the images go by their places
abbrev pub makers : System → List (ℕ → FlowLine)
makers s =
    ((map (λ k n. Hold k n) (range_with_len 0 (image_count s))
    ++ map (λ k n. Start k n) (range_with_len s.stencils.inputs (image_count s - s.stencils.inputs)))
    ++ map (λ r n. Read r.f r.g r.dx r.dy n) (placed_reads s))
    ++ map (λ r n. Keep r.f r.g r.dx r.dy n) (placed_reads s)

-- the flow lines of a flow: one for each constraint whose flow is not 0
abbrev pub carried : List (ℕ → FlowLine) → List ℕ → List FlowLine
carried [] flow = []
carried (line ∷ lines) [] = []
carried (line ∷ lines) (zero ∷ flow) = carried lines flow
carried (line ∷ lines) (suc n ∷ flow) = line (suc n) ∷ carried lines flow

abbrev pub amount_of : FlowLine → ℕ
amount_of (Hold g n) = n
amount_of (Start f n) = n
amount_of (Read f g dx dy n) = n
amount_of (Keep f g dx dy n) = n

-- the lines that carry some
abbrev pub carrying : List FlowLine → List FlowLine
carrying lines = filter (λ x. nat_lt 0 (amount_of x)) lines
