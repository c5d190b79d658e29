use Rattle.std.proofs.Common.{◌≡◌, ◌-◌, true, Ok, sym, ap, ◌∙◌, ap₂, arith, rules}
use Rattle.message.specs.Message.{number_of}
use Rattle.contents.specs.Area.{size_within, first_size, second_size, joined}
use Rattle.contents.specs.Contents.{contents_of, fields_with}
use Rattle.contents.proofs.Trips.{two_written_is, two_read}
use Rattle.contents.proofs.Fitting.{second_within, first_parts, second_parts, payload_small, number_small}
use Rattle.contents.proofs.contents.Contents.two_written.Goals as goal

pub returns-in_err-second_size-clause-value : goal.returns-in_err-second_size-clause-value
returns-in_err-second_size-clause-value c =
    let first = c.in_ok-size.size in
    let same : second_size first (number_of c.args.second) ≡ c.size_within.result =
    sym (second_within first (number_of c.args.second) c.in_ok-size.ensures.fits) ∙ ap (size_within (54 - first)) (sym c.number-2.ensures) ∙ sym c.size_within.ensures.value in
    search rules

pub behind-requires : goal.behind-requires
behind-requires c =
    let n = number_of c.args.second in
    let first = c.in_ok-size.size in
    let size = c.in_ok-second_size.second_size in
    let q = c.in_ok-second_payload.second_payload in
    let told : second_size first n ≡ Ok size =
    sym (second_within first n c.in_ok-size.ensures.fits) ∙ ap (size_within (54 - first)) (sym c.number-2.ensures) ∙ sym c.size_within.ensures.value ∙ c.in_ok-second_size.was in
    let small = payload_small n q size c.args.second (second_parts first n size told).0 (c.payload-2.ensures.read_again q c.in_ok-second_payload.was) in
    (omega (arith, c.in_ok-second_size.ensures.fits), small)

pub behind-area-requires : goal.behind-area-requires
behind-area-requires c =
    let n = number_of c.args.self.first in
    let size = c.in_ok-size.size in
    let told : first_size true n ≡ Ok size = ap (first_size true) (sym c.number.ensures) ∙ sym c.first_size.ensures.value ∙ c.in_ok-size.was in
    let small = payload_small n c.in_ok-payload.payload size c.args.self.first (first_parts true n size told).0 (c.payload.ensures.read_again c.in_ok-payload.payload c.in_ok-payload.was) in
    (omega (arith, c.in_ok-size.ensures.fits, c.in_ok-second_size.ensures.fits), small)

pub returns : goal.returns
returns c =
    let contents = c.args.self in
    let second = c.args.second in
    let n = number_of second in
    let first = c.in_ok-size.size in
    let size = c.in_ok-second_size.second_size in
    let p = c.in_ok-payload.payload in
    let q = c.in_ok-second_payload.second_payload in
    let fits = c.in_ok-size.ensures.fits in
    let second_fits = c.in_ok-second_size.ensures.fits in
    let told : first_size true (number_of contents.first) ≡ Ok first = ap (first_size true) (sym c.number.ensures) ∙ sym c.first_size.ensures.value ∙ c.in_ok-size.was in
    let told_second : second_size first n ≡ Ok size = sym (second_within first n fits) ∙ ap (size_within (54 - first)) (sym c.number-2.ensures) ∙ sym c.size_within.ensures.value ∙ c.in_ok-second_size.was in
    let spare = 54 - first - size in
    let number : c.from.result ≡ n = c.from.ensures ∙ c.number-3.ensures in
    let behind : c.behind.result.bits ≡ joined q spare 0 = c.behind.ensures.bits ∙ ap₂ (joined q) c.zeros.ensures.width c.zeros.ensures.bits in
    let width : c.behind.result.width ≡ 54 - first = omega (arith, fits, second_fits) in
    let behind-2 : c.behind-2.result.bits ≡ joined n (54 - first) (joined q spare 0) = c.behind-2.ensures.bits ∙ (λ i. joined (number i) (width i) (behind i)) in
    let width-2 : c.behind-2.result.width ≡ 58 - first = omega (arith, fits) in
    let area = c.behind-area.ensures.bits ∙ ap₂ (joined p) width-2 behind-2 in
    let fields : c.fields_with.result ≡ fields_with contents true (joined p (58 - first) (joined n (54 - first) (joined q spare 0))) = c.fields_with.ensures ∙ ap (fields_with contents true) area in
    let payload = sym c.payload.ensures.value ∙ c.in_ok-payload.was in
    let second_payload = sym c.payload-2.ensures.value ∙ c.in_ok-second_payload.was in
    let again = c.payload.ensures.read_again p c.in_ok-payload.was in
    let again_second = c.payload-2.ensures.read_again q c.in_ok-second_payload.was in
    record {
      value = ap Ok fields ∙ sym (two_written_is contents second first size p q told told_second payload second_payload);
      read_again = λ f e. let same : c.fields_with.result ≡ f = cc in
          ap contents_of (sym same ∙ fields) ∙ two_read contents second first size p q told told_second (number_small second) again again_second;
    }
