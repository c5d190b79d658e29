-- Any message, written and read.
use Rattle.std.proofs.Common.{◌≡◌, ℕ, zero, suc, ◌^◌, ◌<◌, true, false, cond, ltb, Ok, Err, Result, sym, refl, ap, ◌∙◌, subst, ⊎_elim}
use Rattle.std.proofs.lemmas.Bool.{lt-ltb, ltb-true, cond-true, cond-false, cases_Bool}
use Rattle.pdu.specs.declared.refusal.Refusal.{Refusal}
use Rattle.pdu.specs.declared.refusal.Refusal.TheVariants.{OutOfRange, ReservedMessage}
use Rattle.message.specs.declared.place.Place.{Place}
use Rattle.message.specs.declared.place.Place.TheVariants.{Name, Message, Alert}
use Rattle.message.specs.declared.message.Message.{Message as MessageType}
use Rattle.message.specs.declared.message.Message.TheVariants.{StationId, ShortName, Frame, Location, Service, Parameter, Universal}
use Rattle.message.specs.declared.station.StationId.{StationId as StationIdType}
use Rattle.message.specs.declared.station.ShortName.{ShortName as ShortNameType}
use Rattle.message.specs.declared.location.LocationHalf.{LocationHalf}
use Rattle.message.specs.declared.service.Service.{Service as ServiceType}
use Rattle.message.specs.declared.parameter.Parameter.{Parameter as ParameterType}
use Rattle.message.specs.Place.{place_number}
use Rattle.message.specs.Results.{in_range, and_then}
use Rattle.message.specs.Station.{station_of, station_in_range, station_packed, short_name_of, short_name_in_range, short_name_packed}
use Rattle.message.specs.Location.{half_of, half_in_range, half_packed}
use Rattle.message.specs.Service.{service_of}
use Rattle.message.specs.Parameter.{parameter_of}
use Rattle.message.specs.Message.{number_of, message_of, parsed, payload_of}
use Rattle.message.proofs.Ranges.{refused, in_range_lem, range_parts, then_ok, then_parts}
use Rattle.message.proofs.StationPacked.{station_again, station_packed_lem, short_name_again, short_name_packed_lem}
use Rattle.message.proofs.LocationPacked.{half_again, half_packed_lem}
use Rattle.message.proofs.ServicePacked.{service_packed_lem}
use Rattle.message.proofs.ParameterPacked.{parameter_packed_lem}

-- a payload that fits
fits : {A : Type 0} (p size : ℕ) (x : Result A Refusal) → p < 2 ^ size → cond (ltb p (2 ^ size)) x (Err OutOfRange) ≡ x
fits p size x h = cond-true (ltb p (2 ^ size)) x (Err OutOfRange) (lt-ltb p (2 ^ size) h)

-- Each kind, written, is read again.
pub station_read : (s : StationIdType) (p : ℕ) → in_range (station_in_range s) (station_packed s) ≡ Ok p → parsed 0 p ≡ Ok (StationId s)
station_read s p e =
    let parts = range_parts (station_in_range s) (station_packed s) p e in
    let again = station_again s parts.0 in
    ap (parsed 0) (sym parts.1) ∙ fits (station_packed s) 32 (Ok (StationId (station_of (station_packed s)))) again.0 ∙ ap (λ t. Ok (StationId t)) again.1

pub short_name_read : (s : ShortNameType) (p : ℕ) → in_range (short_name_in_range s) (short_name_packed s) ≡ Ok p → parsed 1 p ≡ Ok (ShortName s)
short_name_read s p e =
    let parts = range_parts (short_name_in_range s) (short_name_packed s) p e in
    let again = short_name_again s parts.0 in
    let wrapped : ShortNameType → Result MessageType Refusal = λ t. Ok (ShortName t) in
    ap (parsed 1) (sym parts.1) ∙ fits (short_name_packed s) 22 (and_then (short_name_of (short_name_packed s)) wrapped) again.0 ∙ then_ok (short_name_of (short_name_packed s)) s wrapped again.1

pub half_read : (h : LocationHalf) (p : ℕ) → in_range (half_in_range h) (half_packed h) ≡ Ok p → parsed 4 p ≡ Ok (Location h)
half_read h p e =
    let parts = range_parts (half_in_range h) (half_packed h) p e in
    let again = half_again h parts.0 in
    let n = half_packed h in
    let wrapped : LocationHalf → Result MessageType Refusal = λ t. Ok (Location t) in
    ap (parsed 4) (sym parts.1) ∙ fits n 27 (and_then (in_range (half_in_range (half_of n)) (half_of n)) wrapped) again.0
    ∙ ap (λ t. and_then (in_range (half_in_range t) t) wrapped) again.1 ∙ then_ok (in_range (half_in_range h) h) h wrapped (in_range_lem (half_in_range h) h parts.0)

pub frame_read : (place : Place) (x p : ℕ) → in_range (ltb x (2 ^ 58)) x ≡ Ok p → parsed (place_number place) p ≡ Ok (Frame place x)
frame_read Name x p e = let parts = range_parts (ltb x (2 ^ 58)) x p e in ap (parsed 2) (sym parts.1) ∙ fits x 58 (Ok (Frame Name x)) (ltb-true x (2 ^ 58) parts.0)
frame_read Message x p e = let parts = range_parts (ltb x (2 ^ 58)) x p e in ap (parsed 5) (sym parts.1) ∙ fits x 58 (Ok (Frame Message x)) (ltb-true x (2 ^ 58) parts.0)
frame_read Alert x p e = let parts = range_parts (ltb x (2 ^ 58)) x p e in ap (parsed 9) (sym parts.1) ∙ fits x 58 (Ok (Frame Alert x)) (ltb-true x (2 ^ 58) parts.0)

pub service_read : (s : ServiceType) (p : ℕ) → p < 2 ^ 27 → service_of p ≡ Ok s → parsed 6 p ≡ Ok (Service s)
service_read s p h e = fits p 27 (and_then (service_of p) (λ t. Ok (Service t))) h ∙ then_ok (service_of p) s (λ t. Ok (Service t)) e

pub parameter_read : (q : ParameterType) (p : ℕ) → p < 2 ^ 22 → parameter_of p ≡ q → parsed 7 p ≡ Ok (Parameter q)
parameter_read q p h e = fits p 22 (Ok (Parameter (parameter_of p))) h ∙ ap (λ t. Ok (Parameter t)) e

pub universal_read : (x p : ℕ) → in_range (ltb x (2 ^ 58)) x ≡ Ok p → parsed 8 p ≡ Ok (Universal x)
universal_read x p e = let parts = range_parts (ltb x (2 ^ 58)) x p e in ap (parsed 8) (sym parts.1) ∙ fits x 58 (Ok (Universal x)) (ltb-true x (2 ^ 58) parts.0)

-- the same message under another name
pub via : (m k : MessageType) (p : ℕ) → m ≡ k → parsed (number_of k) p ≡ Ok k → parsed (number_of m) p ≡ Ok m
via m k p e h = subst (λ (x : MessageType). parsed (number_of x) p ≡ Ok x) (sym e) h

-- the payload that a test of its size lets through
tested : (p size : ℕ) (x : Result MessageType Refusal) (m : MessageType) → cond (ltb p (2 ^ size)) x (Err OutOfRange) ≡ Ok m → (p < 2 ^ size) × (x ≡ Ok m)
tested p size x m e = ⊎_elim
    (λ (t : ltb p (2 ^ size) ≡ true). (ltb-true p (2 ^ size) t, sym (cond-true (ltb p (2 ^ size)) x (Err OutOfRange) t) ∙ e))
    (λ (f : ltb p (2 ^ size) ≡ false). refused OutOfRange m (sym (cond-false (ltb p (2 ^ size)) x (Err OutOfRange) f) ∙ e))
    (cases_Bool (ltb p (2 ^ size)))

abbrev Again : ℕ → ℕ → MessageType → Type 0
Again n p m = (number_of m ≡ n) × (payload_of m ≡ Ok p)

again_via : (n p : ℕ) (k m : MessageType) → Again n p k → ◌≡◌ {A = Result MessageType Refusal} (Ok k) (Ok m) → Again n p m
again_via n p k m h e = let q : k ≡ m = cc in subst (Again n p) q h

-- a payload of the whole area
whole : (p : ℕ) → p < 2 ^ 58 → in_range (ltb p (2 ^ 58)) p ≡ Ok p
whole p h = in_range_lem (ltb p (2 ^ 58)) p (lt-ltb p (2 ^ 58) h)

-- What was read is written again.
pub written_again : (n p : ℕ) (m : MessageType) → parsed n p ≡ Ok m → (number_of m ≡ n) × (payload_of m ≡ Ok p)
written_again zero p m e = let t = tested p 32 (message_of 0 p) m e in again_via 0 p (StationId (station_of p)) m (refl, station_packed_lem p t.0) t.1
written_again (suc zero) p m e =
    let t = tested p 22 (message_of 1 p) m e in
    let q = then_parts (short_name_of p) (λ s. Ok (ShortName s)) m t.1 in
    again_via 1 p (ShortName q.0) m (refl, short_name_packed_lem p q.0 t.0 q.1) q.2
written_again (suc (suc zero)) p m e = let t = tested p 58 (message_of 2 p) m e in again_via 2 p (Frame Name p) m (refl, whole p t.0) t.1
written_again (suc (suc (suc zero))) p m e = refused ReservedMessage m e
written_again (suc (suc (suc (suc zero)))) p m e =
    let t = tested p 27 (message_of 4 p) m e in
    let q = then_parts (in_range (half_in_range (half_of p)) (half_of p)) (λ h. Ok (Location h)) m t.1 in
    again_via 4 p (Location q.0) m (refl, half_packed_lem p q.0 t.0 q.1) q.2
written_again (suc (suc (suc (suc (suc zero))))) p m e = let t = tested p 58 (message_of 5 p) m e in again_via 5 p (Frame Message p) m (refl, whole p t.0) t.1
written_again (suc (suc (suc (suc (suc (suc zero)))))) p m e =
    let t = tested p 27 (message_of 6 p) m e in
    let q = then_parts (service_of p) (λ s. Ok (Service s)) m t.1 in
    again_via 6 p (Service q.0) m (refl, service_packed_lem p q.0 t.0 q.1) q.2
written_again (suc (suc (suc (suc (suc (suc (suc zero))))))) p m e = let t = tested p 22 (message_of 7 p) m e in again_via 7 p (Parameter (parameter_of p)) m (refl, parameter_packed_lem p t.0) t.1
written_again (suc (suc (suc (suc (suc (suc (suc (suc zero)))))))) p m e = let t = tested p 58 (message_of 8 p) m e in again_via 8 p (Universal p) m (refl, whole p t.0) t.1
written_again (suc (suc (suc (suc (suc (suc (suc (suc (suc zero))))))))) p m e = let t = tested p 58 (message_of 9 p) m e in again_via 9 p (Frame Alert p) m (refl, whole p t.0) t.1
written_again (suc (suc (suc (suc (suc (suc (suc (suc (suc (suc zero)))))))))) p m e = refused ReservedMessage m e
written_again (suc (suc (suc (suc (suc (suc (suc (suc (suc (suc (suc zero))))))))))) p m e = refused ReservedMessage m e
written_again (suc (suc (suc (suc (suc (suc (suc (suc (suc (suc (suc (suc zero)))))))))))) p m e = refused ReservedMessage m e
written_again (suc (suc (suc (suc (suc (suc (suc (suc (suc (suc (suc (suc (suc zero))))))))))))) p m e = refused ReservedMessage m e
written_again (suc (suc (suc (suc (suc (suc (suc (suc (suc (suc (suc (suc (suc (suc zero)))))))))))))) p m e = refused ReservedMessage m e
written_again (suc (suc (suc (suc (suc (suc (suc (suc (suc (suc (suc (suc (suc (suc (suc zero))))))))))))))) p m e = refused ReservedMessage m e
written_again (suc (suc (suc (suc (suc (suc (suc (suc (suc (suc (suc (suc (suc (suc (suc (suc n)))))))))))))))) p m e = refused ReservedMessage m e
