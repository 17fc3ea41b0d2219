-- Each loop begins where the one around it stands, and passes one more.
use Rattle.std.proofs.Common.{[], ◌∷◌, map, refl, arith, lit≤}
use Rattle.models.specs.Threes.{table_turns}
use Rattle.models.proofs.Patterns.{lawful_from}
use Rattle.models.proofs.Groups.{group5, five_among}
use Rattle.systems.specs.Orders.{is_left}
use Rattle.systems.specs.Tables.{turn_table, accepted, lawless_five}
use Rattle.systems.proofs.Passing.{begin, enter, leave, pass, every}
use Rattle.systems.proofs.tables.Turns.check_fives.Goals as goal

pub loop-a-init : goal.loop-a-init
loop-a-init c = begin 5 (turn_table c.args.self.now.count c.args.self.now.list.now)

pub loop-b-init : goal.loop-b-init
loop-b-init c = enter 5 (turn_table c.args.self.now.count c.args.self.now.list.now) [] c.loop-a.a c.loop-a.invariant

pub loop-c-init : goal.loop-c-init
loop-c-init c = enter 5 (turn_table c.args.self.now.count c.args.self.now.list.now) (c.loop-a.a ∷ []) c.loop-b.b c.loop-b.invariant

pub loop-d-init : goal.loop-d-init
loop-d-init c = enter 5 (turn_table c.args.self.now.count c.args.self.now.list.now) (c.loop-a.a ∷ c.loop-b.b ∷ []) c.loop-c.c c.loop-c.invariant

pub loop-e-init : goal.loop-e-init
loop-e-init c = enter 5 (turn_table c.args.self.now.count c.args.self.now.list.now) (c.loop-a.a ∷ c.loop-b.b ∷ c.loop-c.c ∷ []) c.loop-d.d c.loop-d.invariant

pub loop-e-preserved : goal.loop-e-preserved
loop-e-preserved c =
    pass 5 (turn_table c.args.self.now.count c.args.self.now.list.now) (c.loop-a.a ∷ c.loop-b.b ∷ c.loop-c.c ∷ c.loop-d.d ∷ []) c.loop-e.e refl c.loop-e.invariant
    ((five_among (table_turns c.args.self.now.count (map is_left c.args.self.now.list.now)) c.args.self.now.count
    c.loop-a.a c.loop-b.b c.loop-c.c c.loop-d.d c.loop-e.e c.five_pattern.result
    (omega arith) (omega arith) (omega arith) (omega arith) (omega arith) c.five_pattern.ensures.value).1
    (c.if-not-is_lawful_five.ensures.lawful.0 tt).1)

pub loop-d-preserved : goal.loop-d-preserved
loop-d-preserved c = leave 5 (turn_table c.args.self.now.count c.args.self.now.list.now) (c.loop-a.a ∷ c.loop-b.b ∷ c.loop-c.c ∷ []) c.loop-d.d _ (lit≤ tt) (omega arith) c.loop-e.invariant

pub loop-c-preserved : goal.loop-c-preserved
loop-c-preserved c = leave 5 (turn_table c.args.self.now.count c.args.self.now.list.now) (c.loop-a.a ∷ c.loop-b.b ∷ []) c.loop-c.c _ (lit≤ tt) (omega arith) c.loop-d.invariant

pub loop-b-preserved : goal.loop-b-preserved
loop-b-preserved c = leave 5 (turn_table c.args.self.now.count c.args.self.now.list.now) (c.loop-a.a ∷ []) c.loop-b.b _ (lit≤ tt) (omega arith) c.loop-c.invariant

pub loop-a-preserved : goal.loop-a-preserved
loop-a-preserved c = leave 5 (turn_table c.args.self.now.count c.args.self.now.list.now) [] c.loop-a.a _ (lit≤ tt) (omega arith) c.loop-b.invariant

pub returns-then-not-is_lawful_five : goal.returns-then-not-is_lawful_five
returns-then-not-is_lawful_five c = record {
  judged = lawless_five c.args.self.now.fits c.requires.fours (record {
    group = group5 c.args.self.now.count c.loop-a.a c.loop-b.b c.loop-c.c c.loop-d.d c.loop-e.e (omega arith) (omega arith) (omega arith) (omega arith) (omega arith);
    lawless = λ among. c.if-not-is_lawful_five.ensures.lawful.1 (
      omega (arith, c.five_pattern.ensures.bound),
      (five_among (table_turns c.args.self.now.count (map is_left c.args.self.now.list.now)) c.args.self.now.count
          c.loop-a.a c.loop-b.b c.loop-c.c c.loop-d.d c.loop-e.e c.five_pattern.result
          (omega arith) (omega arith) (omega arith) (omega arith) (omega arith) c.five_pattern.ensures.value).0 among,
    );
    first = c.loop-e.invariant;
  });
}

pub returns : goal.returns
returns c =
    let t = c.args.self.now in
    record {
      judged = accepted t.fits
          (lawful_from (table_turns t.count (map is_left t.list.now)) t.count (omega (arith, t.fits.few)) c.requires.fours
          (every 5 (turn_table t.count t.list.now) _ (lit≤ tt) (omega arith) c.loop-a.invariant));
    }
