use Rattle.edge_select.proofs.paths.led_on.Goals as goal

pub returns-clause-passes : goal.returns-clause-passes
returns-clause-passes c x y = (
  (λ h. let a = (c.led-across.ensures.led x).0 h.across in let b = (c.led-down.ensures.led y).0 h.down in (a.0, b.0, record { across = a.1; down = b.1 })),
  (λ h. record { across = (c.led-across.ensures.led x).1 (h.0, h.2.across); down = (c.led-down.ensures.led y).1 (h.1, h.2.down) }),
)
