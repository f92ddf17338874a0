use Rattle.std.proofs.Common.{length, sym, ap, ◌∙◌, arith}
use Rattle.dem_model.specs.declared.state.Body.{Body}
use Rattle.dem_shape.specs.declared.matrices.Turn.{Turn}
use Rattle.dem_shape.proofs.MatrixFacts.{MatricesBelow-kept, MatricesBelow-more, MatricesBelow-all}
use Rattle.dem_shape.proofs.PoseFacts.{body_read, read_orientation}
use Rattle.dem_shape.proofs.matrices.Matrices.fill.Goals as goal
use Rattle.dem_shape.proofs.matrices.Matrices.fill.Goals.{then-has_turned, else-has_turned}

pub matrix_for-requires : goal.matrix_for-requires
matrix_for-requires c = read_orientation c.args.shapes.now c.args.bodies.now c.loop-k.k _ c.requires.sound (omega (arith, c.requires.sound.count))

pub loop-k-init : goal.loop-k-init
loop-k-init c = record { count = ap length c.self.view_is ∙ c.requires.made; turns_are = c.self.invariant; each = λ k below. absurd (omega arith) }

pub loop-k-preserved : goal.loop-k-preserved
loop-k-preserved c = elim c.if-has_turned.branch [
  | then-has_turned w ↦ rw (w.self-inside-is)
      (MatricesBelow-more c.args.shapes.now c.args.bodies.now c.loop-k.k _ _ _ (omega (arith, c.requires.sound.count))
      w.matrix_for.ensures.turn w.matrix_for.ensures.value (ap (λ (b : Body). b.q) (body_read c.args.bodies.now c.loop-k.k _ (omega arith))) c.loop-k.invariant)
  | else-has_turned w ↦ rw (w.self-inside-is)
      (MatricesBelow-kept c.args.shapes.now c.args.bodies.now c.loop-k.k _ _ _ (omega (arith, c.requires.sound.count))
      (ap (λ (t : Turn). t.q) (sym c.index.ensures) ∙ c.has_turned.ensures w.if-has_turned.false) (ap (λ (b : Body). b.q) (body_read c.args.bodies.now c.loop-k.k _ (omega arith))) c.loop-k.invariant)
]

pub returns : goal.returns
returns c = MatricesBelow-all c.args.shapes.now c.args.bodies.now c.loop-k.k _ (omega (arith, c.requires.sound.count)) c.loop-k.invariant

pub invariant_of-self : goal.invariant_of-self
invariant_of-self c = c.loop-k.invariant.turns_are
