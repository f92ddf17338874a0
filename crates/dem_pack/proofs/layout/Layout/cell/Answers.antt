use Rattle.std.proofs.Common.{◌≡◌, ℕ, ◌^◌, ◌+◌, ◌-◌, ◌*◌, ◌/◌, ◌%◌, ◌<◌, ◌≤◌, Some, sym, ap, ◌∙◌, subst, arith}
use Rattle.std.specs.Prelude.{if◌then◌else◌}
use Rattle.std.proofs.lemmas.Bool.{lt-ltb, le-ltb}
use Rattle.dem_model.specs.Cells.{layer_count}
use Rattle.dem_pack.specs.Layers.{cell_in, layer_size}
use Rattle.dem_pack.specs.Layouts.{IsLayout, lattice_in, region_in, span_of}
use Rattle.dem_pack.specs.declared.layout.Layout.{Layout}
use Rattle.dem_pack.proofs.CellFacts.{both-size, has-both, slice_get-cells, even-there, odd-there, even-within, odd-within}
use Rattle.dem_pack.proofs.SpanFacts.{count-few}
use Rattle.dem_pack.proofs.layout.Layout.cell.Goals as goal

pub nonzero_div-pair : goal.nonzero_div-pair
nonzero_div-pair c = rw (c.layer-even.ensures.value, c.layer.ensures.value) (has-both (lattice_in c.args.self.now) (region_in c.args.self.now) c.args.n c.requires.there)

pub nonzero_rem-m : goal.nonzero_rem-m
nonzero_rem-m c = rw (c.layer-even.ensures.value, c.layer.ensures.value) (has-both (lattice_in c.args.self.now) (region_in c.args.self.now) c.args.n c.requires.there)

low-of : (n s a : ℕ) (n' s' a' : ℕ) → n' ≡ n → s' ≡ s → a' ≡ a → n' % s' < a' → n % s < a
low-of n s a n' s' a' en es ea lt = subst (λ x. n % s < x) ea (subst (λ x. n % x < a') es (subst (λ x. x % s' < a') en lt))

high-of : (n s a : ℕ) (n' s' a' : ℕ) → n' ≡ n → s' ≡ s → a' ≡ a → a' ≤ n' % s' → a ≤ n % s
high-of n s a n' s' a' en es ea le = subst (λ x. x ≤ n % s) ea (subst (λ x. a' ≤ n % x) es (subst (λ x. a' ≤ x % s') en le))

module _ (self : Layout) (layout : IsLayout self) where
  few-layers : layer_count (lattice_in self) (region_in self) ≤ 2 ^ 36 + 1
  unfolding layer_count
  few-layers = omega (arith, count-few self.extent self.rise (span_of self.z) layout.rise.low_le, layout.z.high)

pub overflow_mul-pair : goal.overflow_mul-pair
overflow_mul-pair c =
    let l = lattice_in c.args.self.now in
    let region = region_in c.args.self.now in
    let both = ap (λ a. a + c.layer.result) c.layer-even.ensures.value ∙ ap (λ b. layer_size l region 0 + b) c.layer.ensures.value in
    let low = low-of c.args.n (both-size l region) (layer_size l region 0) _ _ _ c.from-2.ensures both c.layer-even.ensures.value c.if-m-even.true in
    let below = even-there l region c.args.n c.requires.there low in
    rw (c.from.ensures, both) (omega (arith, below, few-layers c.args.self.now c.requires.layout))

pub cell_in-requires-clause-layer : goal.cell_in-requires-clause-layer
cell_in-requires-clause-layer c =
    let l = lattice_in c.args.self.now in
    let region = region_in c.args.self.now in
    let both = ap (λ a. a + c.layer.result) c.layer-even.ensures.value ∙ ap (λ b. layer_size l region 0 + b) c.layer.ensures.value in
    let low = low-of c.args.n (both-size l region) (layer_size l region 0) _ _ _ c.from-2.ensures both c.layer-even.ensures.value c.if-m-even.true in
    rw (c.from.ensures, both) (even-there l region c.args.n c.requires.there low)

pub cell_in-requires-clause-there : goal.cell_in-requires-clause-there
cell_in-requires-clause-there c =
    let l = lattice_in c.args.self.now in
    let region = region_in c.args.self.now in
    let both = ap (λ a. a + c.layer.result) c.layer-even.ensures.value ∙ ap (λ b. layer_size l region 0 + b) c.layer.ensures.value in
    let low = low-of c.args.n (both-size l region) (layer_size l region 0) _ _ _ c.from-2.ensures both c.layer-even.ensures.value c.if-m-even.true in
    rw (c.from.ensures, c.from-2.ensures, both) (even-within l region c.args.n low)

pub overflow_mul-pair-else-m-even : goal.overflow_mul-pair-else-m-even
overflow_mul-pair-else-m-even c =
    let l = lattice_in c.args.self.now in
    let region = region_in c.args.self.now in
    let both = ap (λ a. a + c.layer.result) c.layer-even.ensures.value ∙ ap (λ b. layer_size l region 0 + b) c.layer.ensures.value in
    let high = high-of c.args.n (both-size l region) (layer_size l region 0) _ _ _ c.from-2.ensures both c.layer-even.ensures.value c.if-m-even.false in
    let below = odd-there l region c.args.n c.requires.there high in
    rw (c.from.ensures, both) (omega (arith, below, few-layers c.args.self.now c.requires.layout))

pub overflow_add-pair : goal.overflow_add-pair
overflow_add-pair c =
    let l = lattice_in c.args.self.now in
    let region = region_in c.args.self.now in
    let both = ap (λ a. a + c.layer.result) c.layer-even.ensures.value ∙ ap (λ b. layer_size l region 0 + b) c.layer.ensures.value in
    let high = high-of c.args.n (both-size l region) (layer_size l region 0) _ _ _ c.from-2.ensures both c.layer-even.ensures.value c.if-m-even.false in
    let below = odd-there l region c.args.n c.requires.there high in
    rw (c.from.ensures, both) (omega (arith, below, few-layers c.args.self.now c.requires.layout))

pub cell_in-requires-else-m-even-clause-layer : goal.cell_in-requires-else-m-even-clause-layer
cell_in-requires-else-m-even-clause-layer c =
    let l = lattice_in c.args.self.now in
    let region = region_in c.args.self.now in
    let both = ap (λ a. a + c.layer.result) c.layer-even.ensures.value ∙ ap (λ b. layer_size l region 0 + b) c.layer.ensures.value in
    let high = high-of c.args.n (both-size l region) (layer_size l region 0) _ _ _ c.from-2.ensures both c.layer-even.ensures.value c.if-m-even.false in
    rw (c.from.ensures, both) (odd-there l region c.args.n c.requires.there high)

pub cell_in-requires-else-m-even-clause-there : goal.cell_in-requires-else-m-even-clause-there
cell_in-requires-else-m-even-clause-there c =
    let l = lattice_in c.args.self.now in
    let region = region_in c.args.self.now in
    let both = ap (λ a. a + c.layer.result) c.layer-even.ensures.value ∙ ap (λ b. layer_size l region 0 + b) c.layer.ensures.value in
    let high = high-of c.args.n (both-size l region) (layer_size l region 0) _ _ _ c.from-2.ensures both c.layer-even.ensures.value c.if-m-even.false in
    rw (c.from.ensures, c.from-2.ensures, both, c.layer-even.ensures.value) (odd-within l region c.args.n c.requires.there high)

pub returns-then-m-even : goal.returns-then-m-even
returns-then-m-even c =
    let l = lattice_in c.args.self.now in
    let region = region_in c.args.self.now in
    let n = c.args.n in
    let a = layer_size l region 0 in
    let both = ap (λ a. a + c.layer.result) c.layer-even.ensures.value ∙ ap (λ b. layer_size l region 0 + b) c.layer.ensures.value in
    let low = low-of n (both-size l region) a _ _ _ c.from-2.ensures both c.layer-even.ensures.value c.if-m-even.true in
    let is : c.cell_in.result ≡ cell_in l region (2 * (n / both-size l region)) (n % both-size l region) =
    c.cell_in.ensures ∙ ap (λ p. cell_in l region (2 * (p / (c.layer-even.result + c.layer.result))) (c.from-2.result % (c.layer-even.result + c.layer.result))) c.from.ensures
    ∙ ap (λ m. cell_in l region (2 * (n / (c.layer-even.result + c.layer.result))) (m % (c.layer-even.result + c.layer.result))) c.from-2.ensures
    ∙ ap (λ s. cell_in l region (2 * (n / s)) (n % s)) both in
    slice_get-cells l region n c.requires.there
    ∙ ap (λ t. Some (if t then cell_in l region (2 * (n / both-size l region)) (n % both-size l region) else cell_in l region (2 * (n / both-size l region) + 1) (n % both-size l region - a))) (lt-ltb (n % both-size l region) a low)
    ∙ ap Some (sym is)

pub returns-else-m-even : goal.returns-else-m-even
returns-else-m-even c =
    let l = lattice_in c.args.self.now in
    let region = region_in c.args.self.now in
    let n = c.args.n in
    let a = layer_size l region 0 in
    let both = ap (λ a. a + c.layer.result) c.layer-even.ensures.value ∙ ap (λ b. layer_size l region 0 + b) c.layer.ensures.value in
    let high = high-of n (both-size l region) a _ _ _ c.from-2.ensures both c.layer-even.ensures.value c.if-m-even.false in
    let is : c.cell_in-else-m-even.result ≡ cell_in l region (2 * (n / both-size l region) + 1) (n % both-size l region - a) =
    c.cell_in-else-m-even.ensures
    ∙ ap (λ p. cell_in l region (2 * (p / (c.layer-even.result + c.layer.result)) + 1) (c.from-2.result % (c.layer-even.result + c.layer.result) - c.layer-even.result)) c.from.ensures
    ∙ ap (λ m. cell_in l region (2 * (n / (c.layer-even.result + c.layer.result)) + 1) (m % (c.layer-even.result + c.layer.result) - c.layer-even.result)) c.from-2.ensures
    ∙ ap (λ s. cell_in l region (2 * (n / s) + 1) (n % s - c.layer-even.result)) both
    ∙ ap (λ x. cell_in l region (2 * (n / both-size l region) + 1) (n % both-size l region - x)) c.layer-even.ensures.value in
    slice_get-cells l region n c.requires.there
    ∙ ap (λ t. Some (if t then cell_in l region (2 * (n / both-size l region)) (n % both-size l region) else cell_in l region (2 * (n / both-size l region) + 1) (n % both-size l region - a))) (le-ltb (n % both-size l region) a high)
    ∙ ap Some (sym is)
