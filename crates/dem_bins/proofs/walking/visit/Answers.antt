use Rattle.std.proofs.Common.{◌≡◌, ℕ, ◌++◌, arith, sym, subst, ap, ap₂, ◌∙◌, true, [], List}
use Rattle.std.specs.Prelude.{OnOk, min, max}
use Rattle.std.proofs.lemmas.List.{append-nil}
use Rattle.dem_model.specs.Near.{near}
use Rattle.dem_model.specs.Pairs.{pair_of}
use Rattle.dem_model.specs.declared.state.Pair.{Pair}
use Rattle.dem_bins.specs.Blocks.{block_at, meet_on, beside}
use Rattle.dem_bins.specs.declared.blocks.Block.{Block}
use Rattle.dem_bins.specs.Keys.{sphere_in, column_in}
use Rattle.dem_bins.specs.Walk.{meets, met, pair_in, first_column}
use Rattle.dem_bins.proofs.WalkFacts.{meets-seen, meets-beside, visit-near, meets-apart, met-none, block_at-read, visit-later}
use Rattle.dem_bins.proofs.walking.visit.Goals as goal

pub returns-then-not-are_beside-clause-found : goal.returns-then-not-are_beside-clause-found
returns-then-not-are_beside-clause-found g c =
    let read : c.are_beside.result ≡ beside (block_at c.args.blocks.now (sphere_in c.args.first)) (block_at c.args.blocks.now (sphere_in c.args.second)) =
    c.are_beside.ensures ∙ ap₂ (λ (a b : Block). beside a b)
    (block_at-read c.args.blocks.now c.sphere_of-a.result (sphere_in c.args.first) _ c.sphere_of-a.ensures c.requires.first.sphere)
    (block_at-read c.args.blocks.now c.sphere_of-b.result (sphere_in c.args.second) _ c.sphere_of-b.ensures c.requires.second.sphere) in
    let none : met c.args.shapes.now c.args.drift c.args.centers.now c.args.blocks.now c.args.first c.args.second ≡ [] =
    met-none c.args.shapes.now c.args.drift c.args.centers.now c.args.blocks.now c.args.first c.args.second
    (meets-apart c.args.blocks.now c.args.first c.args.second (sym read ∙ c.if-not-are_beside.true)) in
    sym (ap (λ (ps : List Pair). c.args.raw.now.pairs ++ ps) none ∙ append-nil c.args.raw.now.pairs)

pub returns-then-first_column-column_of_key-clause-found : goal.returns-then-first_column-column_of_key-clause-found
unfolding pair_in
returns-then-first_column-column_of_key-clause-found g c =
    let meet : meets c.args.blocks.now c.args.first c.args.second ≡ true =
    meets-seen c.args.blocks.now c.args.first c.args.second c.sphere_of-a.result c.sphere_of-b.result _ _ c.requires.order c.requires.below c.sphere_of-a.ensures c.sphere_of-b.ensures c.if-a-b.false
    (block_at-read c.args.blocks.now c.sphere_of-a.result (sphere_in c.args.first) _ c.sphere_of-a.ensures c.requires.first.sphere)
    (block_at-read c.args.blocks.now c.sphere_of-b.result (sphere_in c.args.second) _ c.sphere_of-b.ensures c.requires.second.sphere) (sym c.are_beside.ensures ∙ c.if-not-are_beside.false) in
    let same : pair_of c.min.result c.max.result ≡ pair_in c.args.first c.args.second =
    ap₂ (λ (a b : ℕ). pair_of a b)
    (c.min.ensures ∙ ap₂ (λ (a b : ℕ). min a b) c.sphere_of-a.ensures c.sphere_of-b.ensures)
    (c.max.ensures ∙ ap₂ (λ (a b : ℕ). max a b) c.sphere_of-a.ensures c.sphere_of-b.ensures) in
    let first : first_column (block_at c.args.blocks.now (sphere_in c.args.first)) (block_at c.args.blocks.now (sphere_in c.args.second)) ≡ column_in c.args.first =
    sym (ap₂ (λ (a b : Block). first_column a b)
    (block_at-read c.args.blocks.now c.sphere_of-a.result (sphere_in c.args.first) _ c.sphere_of-a.ensures c.requires.first.sphere)
    (block_at-read c.args.blocks.now c.sphere_of-b.result (sphere_in c.args.second) _ c.sphere_of-b.ensures c.requires.second.sphere))
    ∙ sym c.first_column.ensures ∙ c.if-first_column-column_of_key.true ∙ c.column_of_key.ensures in
    let seen : near c.args.shapes.now c.args.drift c.args.centers.now (pair_in c.args.first c.args.second) ≡ c.meet_on-near.result =
    c.requires.boxes (sphere_in c.args.first) (sphere_in c.args.second) c.requires.first.sphere c.requires.second.sphere (meets-beside c.args.blocks.now c.args.first c.args.second meet)
    ∙ sym (c.meet_on-near.ensures ∙ ap₂ (λ (p q : Block). meet_on p.upright q.upright)
    (block_at-read c.args.blocks.now c.sphere_of-a.result (sphere_in c.args.first) _ c.sphere_of-a.ensures c.requires.first.sphere)
    (block_at-read c.args.blocks.now c.sphere_of-b.result (sphere_in c.args.second) _ c.sphere_of-b.ensures c.requires.second.sphere)) in
    subst (λ (ps : List Pair). OnOk c.add_apart.result (c.add_apart.new.raw.pairs ≡ c.args.raw.now.pairs ++ ps))
    (visit-near c.args.shapes.now c.args.drift c.args.centers.now c.args.blocks.now c.args.first c.args.second (pair_of c.min.result c.max.result) c.meet_on-near.result meet same first seen) c.add_apart.ensures.found

pub returns-then-first_column-column_of_key-clause-counted : goal.returns-then-first_column-column_of_key-clause-counted
returns-then-first_column-column_of_key-clause-counted g c =
    rw (meets-seen c.args.blocks.now c.args.first c.args.second c.sphere_of-a.result c.sphere_of-b.result _ _ c.requires.order c.requires.below c.sphere_of-a.ensures c.sphere_of-b.ensures c.if-a-b.false
    (block_at-read c.args.blocks.now c.sphere_of-a.result (sphere_in c.args.first) _ c.sphere_of-a.ensures c.requires.first.sphere)
    (block_at-read c.args.blocks.now c.sphere_of-b.result (sphere_in c.args.second) _ c.sphere_of-b.ensures c.requires.second.sphere) (sym c.are_beside.ensures ∙ c.if-not-are_beside.false))
    (omega (arith, c.tick.ensures))

pub returns-else-first_column-column_of_key-clause-found : goal.returns-else-first_column-column_of_key-clause-found
returns-else-first_column-column_of_key-clause-found g c =
    let meet : meets c.args.blocks.now c.args.first c.args.second ≡ true =
    meets-seen c.args.blocks.now c.args.first c.args.second c.sphere_of-a.result c.sphere_of-b.result _ _ c.requires.order c.requires.below c.sphere_of-a.ensures c.sphere_of-b.ensures c.if-a-b.false
    (block_at-read c.args.blocks.now c.sphere_of-a.result (sphere_in c.args.first) _ c.sphere_of-a.ensures c.requires.first.sphere)
    (block_at-read c.args.blocks.now c.sphere_of-b.result (sphere_in c.args.second) _ c.sphere_of-b.ensures c.requires.second.sphere) (sym c.are_beside.ensures ∙ c.if-not-are_beside.false) in
    let read : first_column _ _ ≡ first_column (block_at c.args.blocks.now (sphere_in c.args.first)) (block_at c.args.blocks.now (sphere_in c.args.second)) =
    ap₂ (λ (a b : Block). first_column a b)
    (block_at-read c.args.blocks.now c.sphere_of-a.result (sphere_in c.args.first) _ c.sphere_of-a.ensures c.requires.first.sphere)
    (block_at-read c.args.blocks.now c.sphere_of-b.result (sphere_in c.args.second) _ c.sphere_of-b.ensures c.requires.second.sphere) in
    sym (append-nil c.args.raw.now.pairs)
    ∙ ap (λ (ps : List Pair). c.args.raw.now.pairs ++ ps)
    (sym (visit-later c.args.shapes.now c.args.drift c.args.centers.now c.args.blocks.now c.args.first c.args.second meet
    (λ e. c.if-first_column-column_of_key.false (c.first_column.ensures ∙ read ∙ e ∙ sym c.column_of_key.ensures))))

pub returns-else-first_column-column_of_key-clause-counted : goal.returns-else-first_column-column_of_key-clause-counted
returns-else-first_column-column_of_key-clause-counted g c =
    rw (meets-seen c.args.blocks.now c.args.first c.args.second c.sphere_of-a.result c.sphere_of-b.result _ _ c.requires.order c.requires.below c.sphere_of-a.ensures c.sphere_of-b.ensures c.if-a-b.false
    (block_at-read c.args.blocks.now c.sphere_of-a.result (sphere_in c.args.first) _ c.sphere_of-a.ensures c.requires.first.sphere)
    (block_at-read c.args.blocks.now c.sphere_of-b.result (sphere_in c.args.second) _ c.sphere_of-b.ensures c.requires.second.sphere) (sym c.are_beside.ensures ∙ c.if-not-are_beside.false))
    (omega (arith, c.tick.ensures))
