-- The state at boot stands for the opening configuration.
use Rattle.instr_table.specs.Spent.{unspent}
use Rattle.std.proofs.Common.{inl, inr, refl, ℕ, zero, suc, ◌≤◌, [], ◌∷◌, arith}
use Rattle.std.specs.Prelude.{pos}
use Rattle.std.proofs.lemmas.Option.{none-some}
use Rattle.cap_words.specs.Words.{W, Fix, Ram, undef, nil}
use Rattle.cap_words.specs.Frame.{Among}
use Rattle.quad_memory.specs.Image.{RomImage}
use Rattle.instr_table.specs.Types.{look_up}
use Rattle.instr_table.specs.Making.{NoCodeInRam}
use Rattle.vm_sponsor.specs.declared.amounts.Amounts.{Amounts}
use Rattle.vm_sponsor.specs.Sheets.{root_account}
use Rattle.vm_turn.specs.State.{State, root, println_device, say_device}
use Rattle.vm_turn.specs.Boot.{first_actor, booted}
use Rattle.vm_turn.specs.Sound.{times}
use Rattle.vm_turn.proofs.Events.{times-one}
use Rattle.vm_turn.proofs.FlightActors.{boot-flight}
use Rattle.hum_meaning.specs.Value.{Nil, Plain}
use Rattle.hum_core.specs.Openings.{opening}
use Rattle.hum_code.specs.Layout.{Layout}
use Rattle.hum_code.specs.Stands.{Stands}
use Rattle.hum_code.specs.Opening.{Devices}
use Rattle.hum_code.specs.Program.{HoldsProgram}
use Rattle.hum_sim.specs.Standing.{StateStands}
use Rattle.hum_sim.proofs.Lanes.{both_once}

-- no quad that boot takes spells an operation
boot_code_out : (image : RomImage) (grant : Amounts) (lanes : ℕ) → NoCodeInRam (booted image grant lanes).store
boot_code_out image grant lanes zero = refl
boot_code_out image grant lanes (suc zero) = refl
boot_code_out image grant lanes (suc (suc zero)) = refl
boot_code_out image grant lanes (suc (suc (suc zero))) = refl
boot_code_out image grant lanes (suc (suc (suc (suc zero)))) = refl
boot_code_out image grant lanes (suc (suc (suc (suc (suc zero))))) = refl
boot_code_out image grant lanes (suc (suc (suc (suc (suc (suc zero)))))) = refl
boot_code_out image grant lanes (suc (suc (suc (suc (suc (suc (suc zero))))))) = refl
boot_code_out image grant lanes (suc (suc (suc (suc (suc (suc (suc (suc n)))))))) = refl

boot_once : (w : W) → times w (first_actor ∷ println_device ∷ say_device ∷ []) ≤ 1
boot_once w = both_once (first_actor ∷ []) (println_device ∷ say_device ∷ []) (λ v. times-one first_actor v) (both_once (println_device ∷ []) (say_device ∷ []) (λ v. times-one println_device v) (λ v. times-one say_device v) second) first w
  where
    second : (v : W) → Among v (println_device ∷ []) → Among v (say_device ∷ []) → ⊥
    second v (inl d) (inl e) = cc
    second v (inl d) (inr e) = absurd e
    second v (inr d) e = absurd d

    first : (v : W) → Among v (first_actor ∷ []) → Among v (println_device ∷ say_device ∷ []) → ⊥
    first v (inl d) (inl e) = cc
    first v (inl d) (inr (inl e)) = cc
    first v (inl d) (inr (inr e)) = absurd e
    first v (inr d) e = absurd d

module _ (lay : Layout) (image : RomImage) (program : HoldsProgram image.boot image.cells lay) (grant : Amounts) (lanes : ℕ) where
  abbrev s : State
  s = booted image grant lanes

  boot_devices : Devices lay s.store s.roll (Ram 5)
  unfolding look_up Stands
  boot_devices = record {
    first = println_device;
    second = say_device;
    behind_first = Ram 4;
    behind_second = nil;
    begins = refl;
    goes_on = refl;
    first_stands = (refl, refl);
    second_stands = (refl, refl);
  }

  boot_nil : Stands lay s.store s.roll nil (Plain Nil)
  unfolding Stands
  boot_nil = refl

  pub boot_stands : StateStands lay image.cells (λ n. unspent) s opening
  boot_stands = record {
    rom_is = refl;
    code_out = boot_code_out image grant lanes;
    behaviours = record {
      actors = (
        record { code = image.boot; state = Ram 5; mark = undef; there = refl; idle = λ e. refl; behaves = (refl, inr (refl, program.boot_is, boot_devices, refl)) },
        (
          record { code = Fix (pos 0); state = undef; mark = undef; there = refl; idle = λ e. refl; behaves = (refl, refl) },
          (record { code = Fix (pos 1); state = undef; mark = undef; there = refl; idle = λ e. refl; behaves = (refl, refl) }, tt),
        ),
      );
      once = boot_once;
      front = ([], refl);
    };
    messages = (record { number = refl; target = first_actor; content = nil; there = refl; target_is = refl; value = boot_nil }, tt);
    next_number = refl;
    output = refl;
    flight = record {
      events = tt;
      sound = boot-flight image grant lanes;
      targets = λ i j k l a b e. absurd (none-some k a);
      room = omega arith;
      in_turn = λ one. tt;
    };
    root = record { account = root_account root grant; only = refl; is_root = refl; no_signal = refl; runs = λ e. refl };
  }
