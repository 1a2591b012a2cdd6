use Rattle.std.proofs.Common.{rules, ◌≡◌, ◌<◌, ◌≤◌, ℕ, List, [], ◌+◌, ◌++◌, length, drop, sym, ap, subst, ◌∙◌, length-append, arith}
use Rattle.lw_report_order.specs.Differing.{DiffersAt}
use Rattle.lw_report_order.specs.OrderAnswers.{GivesOrder}
use Rattle.lw_report_order.specs.OrderReading.{onto, numbers_read}
use Rattle.lw_report_order.specs.OrderSection.{StopsAt}
use Rattle.lw_report_order.proofs.OrderAnswers.{reads_order}
use Rattle.lw_report_order.proofs.OrderSections.{head, head_stops}
use Rattle.lw_report_order.proofs.order.order_at.Goals as goal

-- the bytes go on behind the line that they begin with
goes_on : (bytes line : List ℕ) (n : ℕ) → bytes ≡ line ++ drop (length line) bytes → n ≡ length line → n ≤ length bytes
goes_on bytes line n front is =
    let all : length bytes ≡ length line + length (drop (length line) bytes) = ap length front ∙ length-append line (drop (length line) bytes) in
    omega (arith, all, is)

stops : (count n : ℕ) (bytes line : List ℕ) → line ≡ head count → DiffersAt bytes line n × (n < length line) → StopsAt count bytes n
stops count n bytes line is d =
    let h : DiffersAt bytes (head count) n × (n < length (head count)) = subst (λ l. DiffersAt bytes l n × (n < length l)) is d in
    head_stops count n bytes h.0 h.1

pub numbers_at-requires : goal.numbers_at-requires
numbers_at-requires c = goes_on c.args.bytes.now c.as_slice.result.now c.len.result c.in-None.ensures.begins (c.len.ensures ∙ sym c.as_slice.ensures.len)

pub returns-in-Some : goal.returns-in-Some
returns-in-Some c =
    let text : c.into_bytes-line.result.items ≡ head c.args.count = search rules in
    stops c.args.count c.in-Some.place c.args.bytes.now c.as_slice.result.now (c.as_slice.ensures.value ∙ text) c.in-Some.ensures.differs

pub returns : goal.returns
returns c =
    let text : c.into_bytes-line.result.items ≡ head c.args.count = search rules in
    let many : c.len.result ≡ length c.as_slice.result.now = c.len.ensures ∙ sym c.as_slice.ensures.len in
    let G : ℕ → Type 0 = λ n. GivesOrder c.numbers_at.result (onto [] n (numbers_read 0 c.args.count (drop n c.args.bytes.now))) in
    reads_order c.args.count c.args.bytes.now c.as_slice.result.now c.numbers_at.result (c.as_slice.ensures.value ∙ text) c.in-None.ensures.begins (subst G many c.numbers_at.ensures)
