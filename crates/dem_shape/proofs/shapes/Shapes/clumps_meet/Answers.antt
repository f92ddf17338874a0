use Rattle.std.proofs.Common.{◌≡◌, ◌==◌, ◌/◌, ◌^◌, ◌%◌, sym, ap, ◌∙◌, arith, not}
use Rattle.std.proofs.lemmas.Bool.{eq-eqb, ne_eqb}
use Rattle.dem_model.specs.Families.{family_of}
use Rattle.dem_model.specs.Pairs.{sphere_at}
use Rattle.dem_shape.specs.declared.entry.Entry.{Entry}
use Rattle.dem_shape.specs.Offs.{offs_of}
use Rattle.dem_shape.proofs.FamilyFacts.{family_of-small, meet-differ, meet-same}
use Rattle.dem_shape.proofs.shapes.Shapes.clumps_meet.Goals as goal

pub has_bit-requires : goal.has_bit-requires
has_bit-requires c =
    let family : c.entry-second.result.family ≡ family_of c.args.self.now (sphere_at c.args.self.now c.args.b).clump = ap (λ (e : Entry). e.family) c.entry-second.ensures.value in
    omega (arith, family, family_of-small c.args.self.now (sphere_at c.args.self.now c.args.b).clump c.scene-scene.ensures.sound)

pub returns-then-first-second : goal.returns-then-first-second
returns-then-first-second c =
    let first : c.entry-first.result.clump ≡ (sphere_at c.args.self.now c.args.a).clump = ap (λ (e : Entry). e.clump) c.entry-first.ensures.value in
    let second : c.entry-second.result.clump ≡ (sphere_at c.args.self.now c.args.b).clump = ap (λ (e : Entry). e.clump) c.entry-second.ensures.value in
    let family : c.entry-second.result.family ≡ family_of c.args.self.now (sphere_at c.args.self.now c.args.b).clump = ap (λ (e : Entry). e.family) c.entry-second.ensures.value in
    let offs : c.entry-first.result.offs ≡ offs_of c.args.self.now.off (family_of c.args.self.now (sphere_at c.args.self.now c.args.a).clump) = ap (λ (e : Entry). e.offs) c.entry-first.ensures.value in
    ap not c.has_bit.ensures
    ∙ ap (λ o. not (o / 2 ^ c.entry-second.result.family % 2 == 1)) offs
    ∙ ap (λ f. not (offs_of c.args.self.now.off (family_of c.args.self.now (sphere_at c.args.self.now c.args.a).clump) / 2 ^ f % 2 == 1)) family
    ∙ meet-differ c.args.self.now (sphere_at c.args.self.now c.args.a).clump (sphere_at c.args.self.now c.args.b).clump c.scene-scene.ensures.sound
    (ne_eqb (sphere_at c.args.self.now c.args.a).clump (sphere_at c.args.self.now c.args.b).clump (λ e. c.if-first-second.true (first ∙ e ∙ sym second)))

pub returns-else-first-second : goal.returns-else-first-second
returns-else-first-second c =
    let first : c.entry-first.result.clump ≡ (sphere_at c.args.self.now c.args.a).clump = ap (λ (e : Entry). e.clump) c.entry-first.ensures.value in
    let second : c.entry-second.result.clump ≡ (sphere_at c.args.self.now c.args.b).clump = ap (λ (e : Entry). e.clump) c.entry-second.ensures.value in
    ap not (eq-eqb c.entry-first.result.clump c.entry-second.result.clump c.if-first-second.false)
    ∙ meet-same c.args.self.now (sphere_at c.args.self.now c.args.a).clump (sphere_at c.args.self.now c.args.b).clump (eq-eqb (sphere_at c.args.self.now c.args.a).clump (sphere_at c.args.self.now c.args.b).clump (sym first ∙ c.if-first-second.false ∙ second))
