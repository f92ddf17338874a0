use Rattle.std.proofs.Common.{◌≡◌, ◌+◌, ◌<◌, ◌∷◌, [], ◌++◌, length, take, sym, ap, ◌∙◌, arith}
use Rattle.std.proofs.lemmas.List.{length-map}
use Rattle.dem_step.specs.Stored.{body_of}
use Rattle.dem_step.proofs.RoomFacts.{take-set, take-next, take-whole, length-set}
use Rattle.dem_step.proofs.stored.StoredBodies.unpack_into.Goals as goal

pub get-requires : goal.get-requires
get-requires c =
    let size : length c.args.self.now ≡ length c.self.inside.items.items = ap length (sym c.self.view_is) ∙ length-map c.self.inside.items.items body_of in
    omega (arith, size)

pub set-requires : goal.set-requires
set-requires c =
    let size : length c.args.self.now ≡ length c.self.inside.items.items = ap length (sym c.self.view_is) ∙ length-map c.self.inside.items.items body_of in
    omega (arith, size, c.loop-k.invariant.1)

pub loop-k-preserved : goal.loop-k-preserved
loop-k-preserved c =
    let size : length c.args.self.now ≡ length c.self.inside.items.items = ap length (sym c.self.view_is) ∙ length-map c.self.inside.items.items body_of in
    let room : c.loop-k.k < length c.loop-k.bodies = omega (arith, size, c.loop-k.invariant.1) in (
      ap (take (c.loop-k.k + 1)) c.set.ensures
          ∙ take-set c.loop-k.bodies c.loop-k.k c.get.result room
          ∙ ap (λ xs. xs ++ c.get.result ∷ []) c.loop-k.invariant.0
          ∙ sym (take-next c.args.self.now c.loop-k.k c.get.result c.get.ensures),
      ap length c.set.ensures ∙ length-set c.loop-k.bodies c.loop-k.k c.get.result ∙ c.loop-k.invariant.1,
    )

pub returns : goal.returns
returns c =
    let size : length c.args.self.now ≡ length c.self.inside.items.items = ap length (sym c.self.view_is) ∙ length-map c.self.inside.items.items body_of in
    sym (take-whole c.loop-k.bodies c.loop-k.k (omega (arith, size, c.loop-k.invariant.1))) ∙ c.loop-k.invariant.0 ∙ take-whole c.args.self.now c.loop-k.k (omega (arith, size))
