-- `write_literals::meet` meets its contract. The loop's invariant: no literal before the one that is next is the one that is sought.
use mathlib.Core.Path.{refl, sym, ◌∙◌}
use native.Mathlib.Omega.{arith}
use Rattle.write_literals.proofs.Chains.{bucket-read}
use Rattle.write_literals.proofs.Meeting.{seeking-start, seeking-more, seeking-less, sought-not, meets-found, meets-none}
use Rattle.write_literals.proofs.meet.Goals as goal

pub loop-at-init : goal.loop-at-init
loop-at-init c =
    let k = seeking-start c.args.work.now c.requires.0 c.args.key c.args.j c.args.high c.args.wanted c.bucket-b.ensures.0 c.head-at.ensures in
    (omega (arith, k.most, c.requires.0.literals.most), k)

pub returns-then-sought-clause-meets : goal.returns-then-sought-clause-meets
returns-then-sought-clause-meets c =
    let y = c.sought.ensures.0 c.if-sought.true in
    meets-found c.args.work.now c.requires.0 c.args.key c.args.j c.args.high c.args.wanted c.loop-at.invariant.1 c.loop-at-test.true refl refl refl (λ a. omega (arith, c.type_inv.work a)) c.requires.1 y.0 y.1 y.2 y.3

pub returns-then-bucket-b-clause-meets : goal.returns-then-bucket-b-clause-meets
returns-then-bucket-b-clause-meets c =
    let b = bucket-read c.args.work.now c.loop-at-test.true refl refl c.bucket.ensures.0 in
    meets-none c.args.work.now c.requires.0 c.args.key c.args.j c.args.high c.args.wanted c.requires.1 c.requires.2 (λ a. omega (arith, c.type_inv.work a))
    (c.loop-at.invariant.1.astray (λ e. c.if-bucket-b.true (b ∙ e ∙ sym c.bucket-b.ensures.0)))

pub loop-at-smaller : goal.loop-at-smaller
loop-at-smaller c =
    let b = bucket-read c.args.work.now c.loop-at-test.true refl refl c.bucket.ensures.0 in
    seeking-less c.args.work.now c.requires.0 c.args.key c.args.j c.args.high c.args.wanted c.loop-at.invariant.1 c.loop-at-test.true (sym b ∙ c.if-bucket-b.false ∙ c.bucket-b.ensures.0) refl

pub loop-at-preserved : goal.loop-at-preserved
loop-at-preserved c =
    let b = bucket-read c.args.work.now c.loop-at-test.true refl refl c.bucket.ensures.0 in
    let k = seeking-more c.args.work.now c.requires.0 c.args.key c.args.j c.args.high c.args.wanted c.loop-at.invariant.1 c.loop-at-test.true (sym b ∙ c.if-bucket-b.false ∙ c.bucket-b.ensures.0) refl
    (sought-not c.args.work.now c.requires.0 c.args.key c.args.j c.args.high c.args.wanted c.loop-at.invariant.1 c.loop-at-test.true refl refl refl (c.sought.ensures.1 c.if-sought.false)) in
    (omega (arith, k.most, c.requires.0.literals.most), k)

pub returns-clause-meets : goal.returns-clause-meets
returns-clause-meets c = meets-none c.args.work.now c.requires.0 c.args.key c.args.j c.args.high c.args.wanted c.requires.1 c.requires.2 (λ a. omega (arith, c.type_inv.work a)) (c.loop-at.invariant.1.none c.loop-at-test.false)
