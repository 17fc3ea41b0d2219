-- Each loop begins where the one around it stands, and passes one more.
use Rattle.std.proofs.Common.{[], ◌∷◌, map, refl, arith, lit≤}
use Rattle.models.specs.Threes.{table_turns}
use Rattle.models.proofs.Groups.{group4, four_among}
use Rattle.systems.specs.Orders.{is_left}
use Rattle.systems.specs.Tables.{turn_table, lawless_four}
use Rattle.systems.proofs.Passing.{begin, enter, leave, pass, every}
use Rattle.systems.proofs.tables.Turns.check_fours.Goals as goal

pub loop-a-init : goal.loop-a-init
loop-a-init c = begin 4 (turn_table c.args.self.now.count c.args.self.now.list.now)

pub loop-b-init : goal.loop-b-init
loop-b-init c = enter 4 (turn_table c.args.self.now.count c.args.self.now.list.now) [] c.loop-a.a c.loop-a.invariant

pub loop-c-init : goal.loop-c-init
loop-c-init c = enter 4 (turn_table c.args.self.now.count c.args.self.now.list.now) (c.loop-a.a ∷ []) c.loop-b.b c.loop-b.invariant

pub loop-d-init : goal.loop-d-init
loop-d-init c = enter 4 (turn_table c.args.self.now.count c.args.self.now.list.now) (c.loop-a.a ∷ c.loop-b.b ∷ []) c.loop-c.c c.loop-c.invariant

pub loop-d-preserved : goal.loop-d-preserved
loop-d-preserved c =
    pass 4 (turn_table c.args.self.now.count c.args.self.now.list.now) (c.loop-a.a ∷ c.loop-b.b ∷ c.loop-c.c ∷ []) c.loop-d.d refl c.loop-d.invariant
    ((four_among (table_turns c.args.self.now.count (map is_left c.args.self.now.list.now)) c.args.self.now.count
    c.loop-a.a c.loop-b.b c.loop-c.c c.loop-d.d c.four_pattern.result
    (omega arith) (omega arith) (omega arith) (omega arith) c.four_pattern.ensures.value).1
    (c.if-not-is_lawful_four.ensures.lawful.0 tt).1)

pub loop-c-preserved : goal.loop-c-preserved
loop-c-preserved c = leave 4 (turn_table c.args.self.now.count c.args.self.now.list.now) (c.loop-a.a ∷ c.loop-b.b ∷ []) c.loop-c.c _ (lit≤ tt) (omega arith) c.loop-d.invariant

pub loop-b-preserved : goal.loop-b-preserved
loop-b-preserved c = leave 4 (turn_table c.args.self.now.count c.args.self.now.list.now) (c.loop-a.a ∷ []) c.loop-b.b _ (lit≤ tt) (omega arith) c.loop-c.invariant

pub loop-a-preserved : goal.loop-a-preserved
loop-a-preserved c = leave 4 (turn_table c.args.self.now.count c.args.self.now.list.now) [] c.loop-a.a _ (lit≤ tt) (omega arith) c.loop-b.invariant

pub returns-then-not-is_lawful_four : goal.returns-then-not-is_lawful_four
returns-then-not-is_lawful_four c = record {
  fours = lawless_four c.args.self.now.fits (record {
    group = group4 c.args.self.now.count c.loop-a.a c.loop-b.b c.loop-c.c c.loop-d.d (omega arith) (omega arith) (omega arith) (omega arith);
    lawless = λ among. c.if-not-is_lawful_four.ensures.lawful.1 (
      omega (arith, c.four_pattern.ensures.bound),
      (four_among (table_turns c.args.self.now.count (map is_left c.args.self.now.list.now)) c.args.self.now.count
          c.loop-a.a c.loop-b.b c.loop-c.c c.loop-d.d c.four_pattern.result
          (omega arith) (omega arith) (omega arith) (omega arith) c.four_pattern.ensures.value).0 among,
    );
    first = c.loop-d.invariant;
  });
}

pub returns : goal.returns
returns c = record { fours = every 4 (turn_table c.args.self.now.count c.args.self.now.list.now) _ (lit≤ tt) (omega arith) c.loop-a.invariant }
