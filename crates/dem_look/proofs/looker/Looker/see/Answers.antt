use Rattle.std.proofs.Common.{◌≡◌, length, ap, ◌∙◌, FitsSigned, w64, arith, rules}
use Rattle.std.proofs.lemmas.Int.{to_z-of_z}
use Rattle.std.proofs.lemmas.List.{with_items_is}
use Rattle.dem_model.specs.Look.{top_of}
use Rattle.dem_look.specs.Looker.{LookerValue, lows_of}
use Rattle.dem_look.specs.Inside.{counts_of}
use Rattle.dem_look.proofs.HeldFacts.{held-few}
use Rattle.dem_look.proofs.CountFacts.{length-counts_of}
use Rattle.dem_look.proofs.SeenFacts.{up-is, down-is, most-seen, busiest-seen, row-is}
use Rattle.dem_look.proofs.looker.Looker.see.Goals as goal

pub count_contacts-requires-clause-few : goal.count_contacts-requires-clause-few
count_contacts-requires-clause-few c = omega (arith, ap length c.as_slice.ensures, held-few c.args.shapes.now c.args.state.now c.scene-scene.ensures.sound c.requires.fit)

pub crossings-crossed-requires-clause-few : goal.crossings-crossed-requires-clause-few
crossings-crossed-requires-clause-few c =
    omega (arith, ap length c.as_slice-2.ensures.value, c.self.invariant.low, ap (λ (v : LookerValue). v.clumps) c.self.view_is, c.requires.made, c.scene-scene.ensures.sound.clump_count.le_high)

pub find_busiest-contacts-requires : goal.find_busiest-contacts-requires
find_busiest-contacts-requires c =
    let size : length c.count_contacts.new.counts ≡ c.self.inside.counts.len = omega (arith, c.count_contacts.auto.counts, c.as_mut_slice-2.ensures.len) in
    omega (
      arith,
      ap length (c.as_slice-4.ensures.value ∙ with_items_is c.self.inside.counts c.count_contacts.new.counts size ∙ c.count_contacts.ensures),
      length-counts_of c.args.shapes.now c.as_slice.result.now,
      c.scene-scene.ensures.sound.clump_count.le_high,
    )

pub returns-clause-value : goal.returns-clause-value
returns-clause-value c before shows =
    let fits : FitsSigned w64 c.highest.result = search rules in
    let flag_size : length c.flag_lows.new.flags ≡ c.self.inside.next.len = omega (arith, c.flag_lows.auto.flags, c.as_mut_slice.ensures.len) in
    let count_size : length c.count_contacts.new.counts ≡ c.self.inside.counts.len = omega (arith, c.count_contacts.auto.counts, c.as_mut_slice-2.ensures.len) in
    let flags : c.as_slice-3.result.now ≡ lows_of c.args.shapes.now c.args.state.now =
    c.as_slice-3.ensures.value ∙ with_items_is c.self.inside.next c.flag_lows.new.flags flag_size ∙ c.flag_lows.ensures in
    let counts : c.as_slice-4.result.now ≡ counts_of c.args.shapes.now c.args.state.now.held =
    c.as_slice-4.ensures.value ∙ with_items_is c.self.inside.counts c.count_contacts.new.counts count_size ∙ c.count_contacts.ensures ∙ ap (counts_of c.args.shapes.now) c.as_slice.ensures in
    let view = ap (λ (v : LookerValue). v.lows) c.self.view_is in
    row-is c.args.shapes.now before c.args.state.now _ c.kinetic.result c.crossings-crossed.result.up c.crossings-crossed.result.down c.find_busiest-contacts.result.most c.find_busiest-contacts.result.clump
    (to_z-of_z w64 c.highest.result fits ∙ c.highest.ensures ∙ ap top_of c.as_slice-5.ensures)
    c.kinetic.ensures.value
    (up-is c.args.shapes.now c.self.inside.seen c.self.inside.low.items c.as_slice-2.result.now c.as_slice-3.result.now c.args.self.now.lows before c.args.state.now c.crossings-crossed.result.up
    c.crossings-crossed.ensures.up c.as_slice-2.ensures.value flags view shows)
    (down-is c.args.shapes.now c.self.inside.seen c.self.inside.low.items c.as_slice-2.result.now c.as_slice-3.result.now c.args.self.now.lows before c.args.state.now c.crossings-crossed.result.down
    c.crossings-crossed.ensures.down c.as_slice-2.ensures.value flags view shows)
    (most-seen c.args.shapes.now c.args.state.now c.as_slice-4.result.now c.find_busiest-contacts.result.most counts c.find_busiest-contacts.ensures.most)
    (busiest-seen c.args.shapes.now c.args.state.now c.as_slice-4.result.now c.find_busiest-contacts.result.most c.find_busiest-contacts.result.clump counts c.find_busiest-contacts.ensures.most c.find_busiest-contacts.ensures.clump)
