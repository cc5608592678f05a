use Rattle.std.proofs.Common.{ap, true, false, ◌≢◌, ◌≡◌, length}
use Rattle.lisp_data.proofs.SameLemmas.{same_value-lengths, lists-equal}
use Rattle.lisp_data.proofs.value.+value_same.Goals as goal

pub Value::same-returns-then-a-b : goal.Value::same-returns-then-a-b
Value::same-returns-then-a-b t c =
    let differ : length c.in-List-List.a ≢ length c.in-List-List.b = λ e. c.if-a-b.true (cc) in
    record { value = same_value-lengths c.args.self.now c.args.other.now c.in-List-List.a c.in-List-List.b c.in-List-List.is-0 c.in-List-List.is-1 differ; law = (λ h. let wrong : false ≡ true = h in cc, λ e. absurd (differ (ap length (lists-equal c.args.self.now c.args.other.now c.in-List-List.a c.in-List-List.b c.in-List-List.is-0 c.in-List-List.is-1 e)))) }
